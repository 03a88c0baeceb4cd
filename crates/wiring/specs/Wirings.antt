-- What a wiring means: for each wire a list of flying frames, oldest first, and a spare; one number of misses and one depth, which
-- no call changes. What a send and a take may do is a relation between the meaning before, the answer, and the meaning after.
use Rattle.std.specs.Prelude.{◌≡◌, ℕ, ◌<◌, ◌≤◌, ◌⊎◌, List, [], ◌∷◌, ◌++◌, length, replicate, Some, None, Ok, Err, Option, Result, ◌≢◌}
use Rattle.cable.specs.Numbers.{wires}
use Rattle.cable.specs.declared.refusal.Refusal.{Refusal}
use Rattle.cable.specs.declared.refusal.Refusal.TheVariants.{NoSuchWire, WireFull}

-- a frame is three bytes; a wire's spare: how many frames in a row it may still lose; the misses: the most that any spare may be
pub record WiringModel : Type 0 where
  pub flying : ℕ → List (List ℕ)
  pub spare : ℕ → ℕ
  pub misses : ℕ
  pub depth : ℕ

-- what is true of every wiring
pub record WiringSound (w : WiringModel) : Type 0 where
  pub few : w.misses ≤ 15
  pub some_depth : 1 ≤ w.depth
  pub small_depth : w.depth ≤ 8
  pub spares : (k : ℕ) → w.spare k ≤ w.misses
  pub flights : (k : ℕ) → length (w.flying k) ≤ w.depth

pub record WiringSame (w v : WiringModel) : Type 0 where
  pub flying : (k : ℕ) → v.flying k ≡ w.flying k
  pub spare : (k : ℕ) → v.spare k ≡ w.spare k

-- on other wires the lists stay and no spare rises
pub record OtherWires (wire : ℕ) (w v : WiringModel) : Type 0 where
  pub flying : (k : ℕ) → (k ≢ wire) → v.flying k ≡ w.flying k
  pub spare : (k : ℕ) → (k ≢ wire) → v.spare k ≤ w.spare k

pub record Constant (w v : WiringModel) : Type 0 where
  pub misses : v.misses ≡ w.misses
  pub depth : v.depth ≡ w.depth

-- a frame is lost only with a spare, which falls
pub record Loses (wire : ℕ) (w v : WiringModel) : Type 0 where
  pub had : 1 ≤ w.spare wire
  pub stays : v.flying wire ≡ w.flying wire
  pub falls : v.spare wire < w.spare wire

-- or it is kept, once or more often, with any new spare
pub record Keeps (wire : ℕ) (frame : List ℕ) (w v : WiringModel) : Type 0 where
  pub copies : ℕ
  pub some : 1 ≤ copies
  pub joins : v.flying wire ≡ w.flying wire ++ replicate copies frame
  pub within : length (v.flying wire) ≤ w.depth
  pub renewed : v.spare wire ≤ w.misses

pub record Sends (w : WiringModel) (wire : ℕ) (frame : List ℕ) (r : Result (Unit {0}) Refusal) (v : WiringModel) : Type 0 where
  pub constant : Constant w v
  pub no_wire : wires ≤ wire → (r ≡ Err NoSuchWire) × WiringSame w v
  pub full : wire < wires → length (w.flying wire) ≡ w.depth → (r ≡ Err WireFull) × WiringSame w v
  pub done : wire < wires → length (w.flying wire) < w.depth
      → (r ≡ Ok tt) × (Loses wire w v ⊎ Keeps wire frame w v) × OtherWires wire w v

pub record Takes (w : WiringModel) (wire : ℕ) (r : Result (Option (List ℕ)) Refusal) (v : WiringModel) : Type 0 where
  pub constant : Constant w v
  pub no_wire : wires ≤ wire → (r ≡ Err NoSuchWire) × WiringSame w v
  pub empty : wire < wires → w.flying wire ≡ [] → (r ≡ Ok None) × (v.flying wire ≡ [])
  pub oldest : wire < wires → (f : List ℕ) (fs : List (List ℕ)) → w.flying wire ≡ f ∷ fs → (r ≡ Ok (Some f)) × (v.flying wire ≡ fs)
  pub spare : wire < wires → v.spare wire ≤ w.spare wire
  pub others : wire < wires → OtherWires wire w v
