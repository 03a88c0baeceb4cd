-- What the calls on a planted tree answer, by its list of parents.
use Rattle.std.specs.Prelude.{◌≡◌, ℕ, Bool, false, cond, List, Some, None, Ok, Err, Option, Result, slice_index_or}
use Rattle.cable.specs.Rows.{contents}
use Rattle.cable.specs.declared.number.CabinetNo.{CabinetNo}
use Rattle.cable.specs.declared.number.LaneNo.{LaneNo}
use Rattle.cable.specs.declared.refusal.Refusal.{Refusal}
use Rattle.tree.specs.Trees.{has_cable, parent_of, tree_refusal}
use Rattle.tree.specs.declared.tree.Tree.{Tree}
use Rattle.tree.specs.declared.tree.neighbours.Neighbours.{Neighbours}

abbrev pub parents_of : Tree → List CabinetNo
parents_of t = contents t.parents

-- a list that is refused for nothing is planted as it is
abbrev pub Planted : List CabinetNo → Result Tree Refusal → Type 0
Planted ps (Ok t) = (tree_refusal ps ≡ None) × (parents_of t ≡ ps)
Planted ps (Err e) = tree_refusal ps ≡ Some e

abbrev pub parent_in : List CabinetNo → ℕ → Option CabinetNo
parent_in ps k = cond (has_cable ps k) (Some (record { 0 = parent_of ps k })) None

abbrev pub cabinets : Option (ℕ × ℕ) → Option (CabinetNo × CabinetNo)
cabinets None = None
cabinets (Some e) = Some (record { 0 = e.0 }, record { 0 = e.1 })

abbrev pub numbered : Option ℕ → Option LaneNo
numbered None = None
numbered (Some l) = Some (record { 0 = l })

-- by number, whether a cabinet is one of the neighbours
abbrev pub members_of : Neighbours → List Bool
members_of ns = ns.member

abbrev pub has_number : Neighbours → ℕ → Bool
has_number ns n = slice_index_or (members_of ns) n false
