-- A cabinet as it is planted: no mark is set and nobody is queued; the privilege is at the root, and elsewhere lies toward the parent.
use Rattle.std.specs.Prelude.{ℕ, false, List, [], Some, None}
use Rattle.cable.specs.declared.number.CabinetNo.{CabinetNo}
use Rattle.tree.specs.Planted.{parent_in}
use Rattle.cabinet.specs.Models.{Model}
use Rattle.cabinet.specs.declared.party.Party.{Party}
use Rattle.cabinet.specs.declared.party.Party.TheVariants.{Own, Neighbour}

abbrev pub holder_in : List CabinetNo → ℕ → Party
holder_in ps k = elim (parent_in ps k) [ None ↦ Own | Some p ↦ Neighbour p ]

abbrev pub planted_model : List CabinetNo → ℕ → Model
planted_model ps k = record { holder = holder_in ps k; inside = false; asked = false; queue = [] }
