-- A cabinet's neighbours, as a test of cabinet numbers.
use Rattle.std.specs.Prelude.{Bool}
use Rattle.cable.specs.declared.number.CabinetNo.{CabinetNo}
use Rattle.tree.specs.Planted.{members_of}
use Rattle.tree.specs.declared.tree.neighbours.Neighbours.{Neighbours}
use Rattle.cabinet.specs.Kept.{near_by}

abbrev pub near : Neighbours → CabinetNo → Bool
near ns = near_by (members_of ns)
