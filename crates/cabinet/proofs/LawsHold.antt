-- The laws of an event that is done.
use Rattle.std.proofs.Common.{◌≡◌, Bool, true, false, cond, List, [], ◌∷◌, ◌++◌, Some, None, Option, sym, refl, ap, ◌∙◌, arith}
use Rattle.std.proofs.lemmas.List.{append-nil}
use Rattle.cable.specs.Rows.{oldest, rest}
use Rattle.cable.specs.declared.number.CabinetNo.{CabinetNo}
use Rattle.cabinet.proofs.Keeping.{free}
use Rattle.cabinet.specs.Laws.{EarlierJoinedEarlierServed, newcomer, served_in}
use Rattle.cabinet.specs.Models.{Model, acted, served, given, assigned, asks, stepped}
use Rattle.cabinet.specs.Parties.{own}
use Rattle.cabinet.specs.Reactions.{reaction, reaction_to}
use Rattle.cabinet.specs.declared.event.Event.{Event}
use Rattle.cabinet.specs.declared.event.Event.TheVariants.{Want, Leave, Request, Privilege}
use Rattle.cabinet.specs.declared.party.Party.{Party}
use Rattle.cabinet.specs.declared.party.Party.TheVariants.{Own, Neighbour}

acted_queue : (m : Model) (e : Event) → (acted m e).queue ≡ m.queue ++ newcomer e
acted_queue m Want = refl
acted_queue m Leave = sym (append-nil m.queue)
acted_queue m (Request u) = refl
acted_queue m (Privilege u) = sym (append-nil m.queue)

pub oldest-rest : (q : List Party) (p : Party) → oldest q ≡ Some p → q ≡ p ∷ rest q
oldest-rest [] p e = absurd (grind arith)
oldest-rest (x ∷ q) p e = let is : x ≡ p = cc in ap (λ y. y ∷ q) is

-- what an asker that is served, or none, leaves of a queue
turn_of : (o : Option Party) (m : Model) (r : Option CabinetNo) → ((p : Party) → o ≡ Some p → oldest m.queue ≡ Some p)
    → m.queue ≡ served_in (reaction_to o r) ++ (given o m).queue
turn_of None m r h = refl
turn_of (Some Own) m r h = oldest-rest m.queue Own (h Own refl)
turn_of (Some (Neighbour v)) m r h = oldest-rest m.queue (Neighbour v) (h (Neighbour v) refl)

pub some_served : (b : Bool) (o : Option Party) (p : Party) → cond b o None ≡ Some p → (b ≡ true) × (o ≡ Some p)
some_served true o p e = (refl, e)
some_served false o p e = absurd (grind arith)

pub in_turn : (m : Model) (e : Event) → EarlierJoinedEarlierServed m e (reaction m e) (stepped m e)
in_turn m e =
    sym (acted_queue m e)
    ∙ turn_of (served (acted m e)) (acted m e) (asks (assigned (acted m e))) (λ p s. (some_served (free (acted m e)) _ p s).1)

pub own_is : (p : Party) → own p ≡ true → p ≡ Own
own_is Own e = refl
own_is (Neighbour n) e = absurd (grind arith)
