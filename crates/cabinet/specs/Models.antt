-- What a cabinet's record holds, and the three steps of an event: act, assign, ask.
use Rattle.std.specs.Prelude.{Bool, true, false, cond, not, ◌&&◌, ◌||◌, List, [], ◌∷◌, ◌++◌, is_some, Some, None, Option, nat_lt}
use Rattle.cable.specs.Rows.{oldest, rest}
use Rattle.cable.specs.declared.number.CabinetNo.{CabinetNo}
use Rattle.cable.specs.declared.refusal.Refusal.{Refusal}
use Rattle.cable.specs.declared.refusal.Refusal.TheVariants.{AlreadyWants, NotIn, NotANeighbour, UnexpectedRequest, UnexpectedPrivilege}
use Rattle.cabinet.specs.Parties.{own, same, times}
use Rattle.cabinet.specs.declared.event.Event.{Event}
use Rattle.cabinet.specs.declared.event.Event.TheVariants.{Want, Leave, Request, Privilege}
use Rattle.cabinet.specs.declared.party.Party.{Party}
use Rattle.cabinet.specs.declared.party.Party.TheVariants.{Own, Neighbour}

-- who has the privilege or lies on the way to it; the marks "in" and "asked"; the request queue, oldest first
pub record Model : Type 0 where
  pub holder : Party
  pub inside : Bool
  pub asked : Bool
  pub queue : List Party

abbrev pub queued : Party → Model → Bool
queued p m = nat_lt 0 (times p m.queue)

abbrev pub waits : Model → Bool
waits m = queued Own m

-- some asker stands in the queue
abbrev pub some : List Party → Bool
some [] = false
some (p ∷ ps) = true

-- why an event is refused, if it is; near tells the neighbours
abbrev pub refused : (CabinetNo → Bool) → Model → Event → Option Refusal
refused near m Want = cond (waits m || m.inside) (Some AlreadyWants) None
refused near m Leave = cond m.inside None (Some NotIn)
refused near m (Request u) =
    cond (near u) (cond (queued (Neighbour u) m || same (Neighbour u) m.holder) (Some UnexpectedRequest) None) (Some NotANeighbour)
refused near m (Privilege u) =
    cond (near u) (cond (same (Neighbour u) m.holder && m.asked) None (Some UnexpectedPrivilege)) (Some NotANeighbour)

abbrev pub joined : Party → Model → Model
joined p m = record { holder = m.holder; inside = m.inside; asked = m.asked; queue = m.queue ++ p ∷ [] }

abbrev pub acted : Model → Event → Model
acted m Want = joined Own m
acted m Leave = record { holder = m.holder; inside = false; asked = m.asked; queue = m.queue }
acted m (Request u) = joined (Neighbour u) m
acted m (Privilege u) = record { holder = Own; inside = m.inside; asked = m.asked; queue = m.queue }

abbrev pub neighbour : Party → Option CabinetNo
neighbour Own = None
neighbour (Neighbour v) = Some v

-- the asker that is served: the oldest, once the privilege is here and nobody is in
abbrev pub served : Model → Option Party
served m = cond (own m.holder && not m.inside) (oldest m.queue) None

-- the asker leaves the queue and has the privilege: own goes in, a neighbour becomes the holder
abbrev pub given : Option Party → Model → Model
given None m = m
given (Some p) m = record { holder = p; inside = own p; asked = false; queue = rest m.queue }

abbrev pub assigned : Model → Model
assigned m = given (served m) m

-- whom REQUEST is sent: the holder, while somebody is queued and it has not been asked
abbrev pub asks : Model → Option CabinetNo
asks m = cond (some m.queue && not m.asked) (neighbour m.holder) None

abbrev pub asking : Model → Model
asking m = record { holder = m.holder; inside = m.inside; asked = m.asked || is_some (asks m); queue = m.queue }

-- what the record holds after an event that is not refused
abbrev pub stepped : Model → Event → Model
stepped m e = asking (assigned (acted m e))
