use Rattle.std.proofs.Common.{rules, ◌≡◌, map, refl, sym, ◌∙◌, arith}
use Rattle.std.proofs.lemmas.List.{length-map}
use Rattle.cable.proofs.Made.{made}
use Rattle.wiring.specs.Held.{letters_of}
use Rattle.wiring.specs.Line.{line_of}
use Rattle.wiring.specs.Patterned.{begun_at}
use Rattle.wiring.proofs.Beginning.{all_begun}
use Rattle.wiring.proofs.patterned.Patterned.with.Goals as goal

pub returns : goal.returns
returns c =
    let ls = map letters_of c.args.patterns.now in
    let long = c.from_fn.ensures.items.long in
    record {
      value =
          record {
            misses = refl;
            lines =
                all_begun ls c.from_fn.result (length-map c.args.patterns.now letters_of ∙ c.told-patterns ∙ sym long)
                (λ k d b.
                made (λ i y. line_of y ≡ begun_at ls i) 60
                (λ i y q l called. (search rules, called.met.1)) c.from_fn.ensures.items k d (omega (arith, long)));
          };
    }
