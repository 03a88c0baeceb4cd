use Rattle.std.proofs.Common.{rules, [], ◌∷◌, ◌∙◌, ap}
use Rattle.cable.specs.Numbers.{wires}
use Rattle.cable.proofs.Tables.{all_same}
use Rattle.wiring.specs.Held.{letters_of}
use Rattle.wiring.specs.declared.letter.Letter.TheVariants.{Keep}
use Rattle.wiring.specs.Line.{new_line, given_on}
use Rattle.wiring.proofs.patterned.Patterned.new.Goals as goal

pub returns : goal.returns
returns c =
    let keep = all_same letters_of wires c.keep.result (Keep ∷ []) c.keep.ensures.value in
    let w = c.with.ensures.value in
    record { value = (search rules, record { misses = search rules; lines = λ k. w.lines k ∙ ap (λ l. given_on l new_line) (keep k) }) }
