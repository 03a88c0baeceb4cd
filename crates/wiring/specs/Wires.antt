-- A wire of a fixed depth: the frames that fly on it, three bytes each, oldest first, and whether one more does.
use Rattle.std.specs.Prelude.{ℕ, cond, List, length, Ok, Err, Result, nat_lt}
use Rattle.cable.specs.Rows.{contents}
use Rattle.cable.specs.declared.refusal.Refusal.{Refusal}
use Rattle.cable.specs.declared.refusal.Refusal.TheVariants.{WireFull}
use Rattle.wiring.specs.declared.wire.Wire.{Wire}

-- the depth that no wiring's passes
abbrev pub deepest : ℕ
deepest = 8

abbrev pub flying_on : {depth : ℕ} → Wire depth → List (List ℕ)
flying_on w = contents w.flying

-- one more frame flies, unless the wire is full
abbrev pub flies : List (List ℕ) → ℕ → Result (Unit {0}) Refusal
flies fs depth = cond (nat_lt (length fs) depth) (Ok tt) (Err WireFull)
