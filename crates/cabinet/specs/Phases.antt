-- Which phase a cabinet is in, and which one an event leads to.
use Rattle.std.specs.Prelude.{Bool, true, false, cond}
use Rattle.cabinet.specs.Models.{Model, waits}
use Rattle.cabinet.specs.declared.event.Event.{Event}
use Rattle.cabinet.specs.declared.event.Event.TheVariants.{Want, Leave, Request, Privilege}
use Rattle.cabinet.specs.declared.cabinet.phase.Phase.{Phase}
use Rattle.cabinet.specs.declared.cabinet.phase.Phase.TheVariants.{Rest, Waits, In}

abbrev pub phase_of : Model → Phase
phase_of m = cond m.inside In (cond (waits m) Waits Rest)

-- after an event that is done, by the phase before it and by whether the cabinet went in
abbrev pub phase_after : Phase → Event → Bool → Phase
phase_after p e true = In
phase_after p Want false = Waits
phase_after p Leave false = Rest
phase_after p (Request u) false = p
phase_after p (Privilege u) false = p
