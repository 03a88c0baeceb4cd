-- A tree is its list of parents: entry k is the parent of cabinet k, and the entry of the root, cabinet 0, is 0.
use Rattle.std.specs.Prelude.{ℕ, suc, ◌+◌, ◌-◌, ◌*◌, ◌/◌, ◌%◌, Bool, true, cond, ◌&&◌, ◌||◌, List, [], ◌∷◌, length, Some, None, Option, ◌==◌, nat_le, nat_lt, slice_index_or}
use Rattle.cable.specs.declared.number.CabinetNo.{CabinetNo}
use Rattle.cable.specs.declared.refusal.Refusal.{Refusal}
use Rattle.cable.specs.declared.refusal.Refusal.TheVariants.{WrongCabinetCount, NotATree}

abbrev pub parent_of : List CabinetNo → ℕ → ℕ
parent_of ps k = (slice_index_or ps k (record { 0 = 0 })).0

-- what may stand at place k: 0 at the first, and at any later one a number below the place
abbrev pub lower : ℕ → ℕ → Bool
lower k p = cond (k == 0) (p == 0) (nat_lt p k)

-- the entries from place k on are what may stand there
abbrev pub ordered : ℕ → List CabinetNo → Bool
ordered k [] = true
ordered k (p ∷ ps) = lower k p.0 && ordered (suc k) ps

abbrev pub tree_refusal : List CabinetNo → Option Refusal
tree_refusal ps =
    cond (nat_lt 0 (length ps) && nat_le (length ps) 16)
    (cond (ordered 0 ps) None (Some NotATree))
    (Some WrongCabinetCount)

-- every cabinet but the root has a cable to its parent
abbrev pub has_cable : List CabinetNo → ℕ → Bool
has_cable ps k = nat_lt 0 k && nat_lt k (length ps)

-- cable k joins k and its parent p
abbrev pub cable : List CabinetNo → ℕ → ℕ → Bool
cable ps k p = has_cable ps k && parent_of ps k == p

abbrev pub neighbours : List CabinetNo → ℕ → ℕ → Bool
neighbours ps a b = cable ps a b || cable ps b a

-- the lane of cable k to the parent, and the lane back
abbrev pub up : ℕ → ℕ
up k = 2 * (k - 1)

abbrev pub down : ℕ → ℕ
down k = 2 * (k - 1) + 1

abbrev pub lanes_of : List CabinetNo → ℕ
lanes_of ps = 2 * (length ps - 1)

-- from where to where a lane of cable k runs
abbrev pub way_of : List CabinetNo → ℕ → ℕ → ℕ × ℕ
way_of ps k l = cond (l % 2 == 0) (k, parent_of ps k) (parent_of ps k, k)

abbrev pub ends_of : List CabinetNo → ℕ → Option (ℕ × ℕ)
ends_of ps l = cond (nat_lt l (lanes_of ps)) (Some (way_of ps (l / 2 + 1) l)) None

abbrev pub lane_from : List CabinetNo → ℕ → ℕ → Option ℕ
lane_from ps a b = cond (cable ps a b) (Some (up a)) (cond (cable ps b a) (Some (down b)) None)
