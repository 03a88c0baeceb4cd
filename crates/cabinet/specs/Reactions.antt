-- What comes of an event.
use Rattle.std.specs.Prelude.{◌≡◌, Bool, true, false, Some, None, Ok, Err, Option, Result}
use Rattle.cable.specs.declared.number.CabinetNo.{CabinetNo}
use Rattle.cable.specs.declared.refusal.Refusal.{Refusal}
use Rattle.cabinet.specs.Models.{Model, refused, acted, served, assigned, asks, stepped}
use Rattle.cabinet.specs.declared.event.Event.{Event}
use Rattle.cabinet.specs.declared.event.Reaction.{Reaction}
use Rattle.cabinet.specs.declared.party.Party.{Party}
use Rattle.cabinet.specs.declared.party.Party.TheVariants.{Own, Neighbour}

-- own that is served goes in; a neighbour that is served is sent PRIVILEGE
abbrev pub reaction_to : Option Party → Option CabinetNo → Reaction
reaction_to None r = record { entered = false; privilege = None; request = r }
reaction_to (Some Own) r = record { entered = true; privilege = None; request = r }
reaction_to (Some (Neighbour v)) r = record { entered = false; privilege = Some v; request = r }

abbrev pub reaction : Model → Event → Reaction
reaction m e = reaction_to (served (acted m e)) (asks (assigned (acted m e)))

-- refused, and nothing is changed; or done, with what comes of it
pub record Reacts (near : CabinetNo → Bool) (m : Model) (e : Event) (r : Result Reaction Refusal) (n : Model) : Type 0 where
  pub value : r ≡ elim (refused near m e) [ None ↦ Ok (reaction m e) | Some why ↦ Err why ]
  pub after : n ≡ elim (refused near m e) [ None ↦ stepped m e | Some why ↦ m ]
