-- What holds of every list of parents that is a tree.
use Rattle.std.specs.Prelude.{◌≡◌, ℕ, ◌-◌, ◌*◌, ◌<◌, false, List, length, is_some, Some, Decides}
use Rattle.cable.specs.declared.number.CabinetNo.{CabinetNo}
use Rattle.tree.specs.Trees.{parent_of, neighbours, ends_of, lane_from}

abbrev pub AParentIsLower : List CabinetNo → Type 0
AParentIsLower ps = (k : ℕ) → 0 < k → k < length ps → parent_of ps k < k

-- the lane between two neighbours has them as its ends
abbrev pub ALaneHasItsTwoAsEnds : List CabinetNo → Type 0
ALaneHasItsTwoAsEnds ps = (a b l : ℕ) → lane_from ps a b ≡ Some l → ends_of ps l ≡ Some (a, b)

-- the ends of a lane have that lane between them
abbrev pub TheEndsHaveTheirLane : List CabinetNo → Type 0
TheEndsHaveTheirLane ps = (a b l : ℕ) → ends_of ps l ≡ Some (a, b) → lane_from ps a b ≡ Some l

-- two pairs with one lane are one pair
abbrev pub OneLaneForOnePair : List CabinetNo → Type 0
OneLaneForOnePair ps =
    (a b c d l : ℕ) → lane_from ps a b ≡ Some l → lane_from ps c d ≡ Some l → (a ≡ c) × (b ≡ d)

-- N cabinets use 2 x (N - 1) lanes, and no others
abbrev pub TwoLanesForEachCable : List CabinetNo → Type 0
TwoLanesForEachCable ps = (l : ℕ) → Decides (is_some (ends_of ps l)) (l < 2 * (length ps - 1))

abbrev pub NeighboursAreMutual : List CabinetNo → Type 0
NeighboursAreMutual ps = (a b : ℕ) → neighbours ps a b ≡ neighbours ps b a

abbrev pub NoneIsItsOwnNeighbour : List CabinetNo → Type 0
NoneIsItsOwnNeighbour ps = (a : ℕ) → neighbours ps a a ≡ false

-- two are neighbours exactly if a lane runs from the one to the other
abbrev pub NeighboursHaveALane : List CabinetNo → Type 0
NeighboursHaveALane ps = (a b : ℕ) → is_some (lane_from ps a b) ≡ neighbours ps a b

-- all of them together
pub record Lawful (ps : List CabinetNo) : Type 0 where
  pub lower : AParentIsLower ps
  pub ends : ALaneHasItsTwoAsEnds ps
  pub back : TheEndsHaveTheirLane ps
  pub once : OneLaneForOnePair ps
  pub used : TwoLanesForEachCable ps
  pub shared : NeighboursAreMutual ps
  pub other : NoneIsItsOwnNeighbour ps
  pub joined : NeighboursHaveALane ps
