-- What holds of every event that is done, in words of its own.
use Rattle.std.specs.Prelude.{◌≡◌, true, cond, ◌⊎◌, List, [], ◌∷◌, ◌++◌, Some, None, Option}
use Rattle.cable.specs.declared.message.Message.{Message}
use Rattle.cable.specs.declared.message.Message.TheVariants.{Request as REQUEST, Privilege as PRIVILEGE}
use Rattle.cable.specs.declared.number.CabinetNo.{CabinetNo}
use Rattle.cabinet.specs.Models.{Model, waits}
use Rattle.cabinet.specs.declared.event.Event.{Event}
use Rattle.cabinet.specs.declared.event.Event.TheVariants.{Want, Leave, Request, Privilege}
use Rattle.cabinet.specs.declared.event.Reaction.{Reaction}
use Rattle.cabinet.specs.declared.party.Party.{Party}
use Rattle.cabinet.specs.declared.party.Party.TheVariants.{Own, Neighbour}

abbrev pub sending : Message → Option CabinetNo → List (CabinetNo × Message)
sending m None = []
sending m (Some to) = (to, m) ∷ []

-- what is to be sent, and to whom, in order
abbrev pub sent : Reaction → List (CabinetNo × Message)
sent r = sending PRIVILEGE r.privilege ++ sending REQUEST r.request

-- a PRIVILEGE and a REQUEST that are sent together go to one neighbour, PRIVILEGE first
abbrev pub PrivilegeGoesFirst : Reaction → Type 0
PrivilegeGoesFirst r =
    (v w : CabinetNo) → r.privilege ≡ Some v → r.request ≡ Some w → sent r ≡ (v, PRIVILEGE) ∷ (v, REQUEST) ∷ []

-- a cabinet goes in at its want, or at a PRIVILEGE while it waits, and never else
abbrev pub GoesInOnlyIfWanted : Model → Event → Reaction → Type 0
GoesInOnlyIfWanted m e r = r.entered ≡ true → (e ≡ Want) ⊎ ((u : CabinetNo) × (e ≡ Privilege u) × (waits m ≡ true))

-- who joins the queue on an event
abbrev pub newcomer : Event → List Party
newcomer Want = Own ∷ []
newcomer Leave = []
newcomer (Request u) = Neighbour u ∷ []
newcomer (Privilege u) = []

-- who is served: own goes in, or a neighbour is sent PRIVILEGE
abbrev pub served_in : Reaction → List Party
served_in r = cond r.entered (Own ∷ []) (elim r.privilege [ None ↦ [] | Some v ↦ Neighbour v ∷ [] ])

-- whoever joined earlier is served earlier: who joins stands behind all others, and only the foremost leaves, being served
abbrev pub EarlierJoinedEarlierServed : Model → Event → Reaction → Model → Type 0
EarlierJoinedEarlierServed m e r n = m.queue ++ newcomer e ≡ served_in r ++ n.queue
