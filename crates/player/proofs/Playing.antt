-- Whoever handles all lines of a script has played it.
use Rattle.std.proofs.Common.{ℕ, List, [], ◌++◌, Option, Result}
use Rattle.std.proofs.KnownBytes.{Appends-nil, Appends-trans}
use Rattle.std.specs.Io.KnownBytes.{Appends}
use Rattle.cable.specs.declared.refusal.Refusal.{Refusal}
use Rattle.lines.specs.Inputs as inputs
use Rattle.lines.specs.Inputs.{Handles}
use Rattle.script.specs.Printing.{printed}
use Rattle.script.specs.Scripts.{Told}
use Rattle.script.specs.Stages.{Stage}
use Rattle.script.specs.declared.answer.Answer.{Answer}
use Rattle.player.specs.Plays as plays
use Rattle.player.specs.Plays.{Plays}

-- by the script that a player has and what its output holds
module _ {P : Type 0} (stage : P → Stage) (out : P → Option (List ℕ)) where
  abbrev pub Handle : P → List ℕ → P → Type 0
  Handle p l q = (a : Result Answer Refusal) × Told (stage p) l a (stage q) × Appends (out p) (out q) (printed a)

  pub played : {p q : P} {ls : List (List ℕ)} → Handles Handle p ls q
      → (text : List ℕ) × (s : Stage) × Plays (stage p) ls text s × Appends (out p) (out q) text
  played {p = p} inputs.nothing = ([], stage p, plays.over, Appends-nil (out p))
  played {p = p} {q = q} (inputs.line {q = m} h more) =
      let t = played more in
      (printed h.0 ++ t.0, t.1, plays.line h.0 h.1 t.2, Appends-trans (out p) (out m) (out q) (printed h.0) t.0 h.2 t.3)
