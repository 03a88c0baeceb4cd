-- A line is what a kind of wiring keeps of one wire, the frames that fly on it among it. What a send and a take do to the lines.
use Rattle.std.specs.Prelude.{◌≡◌, ℕ, ◌<◌, ◌≤◌, List, length, Ok, Err, Option, Result, ◌≢◌}
use Rattle.cable.specs.Numbers.{wires}
use Rattle.cable.specs.Rows.{oldest}
use Rattle.cable.specs.declared.refusal.Refusal.{Refusal}
use Rattle.cable.specs.declared.refusal.Refusal.TheVariants.{NoSuchWire, WireFull}
use Rattle.wiring.specs.Wirings.{WiringModel}

-- no line but this wire's changes
abbrev pub OnlyWire : {L : Type 0} → ℕ → (ℕ → L) → (ℕ → L) → Type 0
OnlyWire wire w v = (k : ℕ) → (k ≢ wire) → v k ≡ w k

-- w and v have the lines before and after, by wire
module _ {L : Type 0} (flying : L → List (List ℕ)) where
  -- sent is what a send that is done makes of a line
  pub record SendsBy (depth : ℕ) (sent : L → L) (w : ℕ → L) (wire : ℕ) (r : Result (Unit {0}) Refusal) (v : ℕ → L) : Type 0 where
    pub no_wire : wires ≤ wire → (r ≡ Err NoSuchWire) × (v wire ≡ w wire)
    pub full : wire < wires → length (flying (w wire)) ≡ depth → (r ≡ Err WireFull) × (v wire ≡ w wire)
    pub done : wire < wires → length (flying (w wire)) < depth → (r ≡ Ok tt) × (v wire ≡ sent (w wire))
    pub others : OnlyWire wire w v

  -- and taken what a take makes of it
  pub record TakesBy (taken : L → L) (w : ℕ → L) (wire : ℕ) (r : Result (Option (List ℕ)) Refusal) (v : ℕ → L) : Type 0 where
    pub no_wire : wires ≤ wire → (r ≡ Err NoSuchWire) × (v wire ≡ w wire)
    pub done : wire < wires → (r ≡ Ok (oldest (flying (w wire)))) × (v wire ≡ taken (w wire))
    pub others : OnlyWire wire w v

  -- what such a kind means, if it can tell each line's spare
  abbrev pub means_by : ℕ → ℕ → (L → ℕ) → (ℕ → L) → WiringModel
  means_by depth misses spare w = record { flying = λ k. flying (w k); spare = λ k. spare (w k); misses = misses; depth = depth }
