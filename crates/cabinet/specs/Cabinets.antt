-- What a cabinet means.
use Rattle.std.specs.Prelude.{ℕ, Bool}
use Rattle.cable.specs.declared.number.CabinetNo.{CabinetNo}
use Rattle.tree.specs.Planted.{has_number}
use Rattle.cabinet.specs.Models.{Model}
use Rattle.cabinet.specs.Near.{near}
use Rattle.cabinet.specs.States.{model}
use Rattle.cabinet.specs.declared.cabinet.Cabinet.{Cabinet}

abbrev pub model_of : Cabinet → Model
model_of c = model c.state

abbrev pub near_of : Cabinet → CabinetNo → Bool
near_of c = near c.neighbours

-- whether the cabinet of this number is a neighbour
abbrev pub has_of : Cabinet → ℕ → Bool
has_of c n = has_number c.neighbours n
