-- A wiring is still sound after a step of a sender or a receiver on one wire that keeps that wire within its limits.
use Rattle.std.proofs.Common.{ℕ, ◌≤◌, length, ap, ⊎_elim, arith}
use Rattle.std.proofs.lemmas.Bool.{cases_eq}
use Rattle.wiring.specs.Wirings.{WiringModel, WiringSound, Constant, OtherWires}

pub sound_after : (wire : ℕ) (w v : WiringModel) → WiringSound w → Constant w v → OtherWires wire w v → v.spare wire ≤ w.misses
    → length (v.flying wire) ≤ w.depth → WiringSound v
sound_after wire w v s c o spare flight =
    record {
      few = omega (arith, s.few, c.misses);
      some_depth = omega (arith, s.some_depth, c.depth);
      small_depth = omega (arith, s.small_depth, c.depth);
      spares =
          λ k. ⊎_elim (λ e. rw e (omega (arith, c.misses))) (λ ne. omega (arith, s.spares k, o.spare k ne, c.misses)) (cases_eq k wire);
      flights =
          λ k.
          ⊎_elim (λ e. rw e (omega (arith, c.depth))) (λ ne. omega (arith, s.flights k, ap length (o.flying k ne), c.depth))
          (cases_eq k wire);
    }
