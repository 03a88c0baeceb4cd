-- What every cabinet keeps between events.
use Rattle.std.specs.Prelude.{◌≡◌, ℕ, ◌+◌, ◌<◌, ◌≤◌, Bool, true, false, cond, not, ◌&&◌, List, [], ◌∷◌, length, slice_index_or}
use Rattle.cable.specs.declared.number.CabinetNo.{CabinetNo}
use Rattle.cabinet.specs.Models.{Model, some}
use Rattle.cabinet.specs.Parties.{own, times}
use Rattle.cabinet.specs.declared.party.Party.{Party}
use Rattle.cabinet.specs.declared.party.Party.TheVariants.{Own, Neighbour}

-- members tells, by number, which cabinets are neighbours
abbrev pub near_by : List Bool → CabinetNo → Bool
near_by members n = slice_index_or members n.0 false

-- own, or a neighbour
abbrev pub knows : List Bool → Party → Bool
knows members Own = true
knows members (Neighbour n) = near_by members n

-- how many neighbours there are
abbrev pub many : List Bool → ℕ
many [] = 0
many (b ∷ bs) = cond b 1 0 + many bs

pub record Kept (members : List Bool) (m : Model) : Type 0 where
  pub few : many members ≤ 15
  pub once : (p : Party) → times p m.queue ≤ 1
  pub apart : times m.holder m.queue ≡ 0
  pub home : m.inside ≡ true → own m.holder ≡ true
  pub idle : own m.holder ≡ true → m.inside ≡ false → length m.queue ≡ 0
  pub asks : m.asked ≡ (not (own m.holder) && some m.queue)
  pub known : (p : Party) → 0 < times p m.queue → knows members p ≡ true
  pub near : knows members m.holder ≡ true
