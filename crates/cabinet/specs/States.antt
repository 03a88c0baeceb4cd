-- What the fields of a cabinet's record mean.
use Rattle.std.specs.Prelude.{List}
use Rattle.cable.specs.Rows.{contents}
use Rattle.cabinet.specs.Models.{Model}
use Rattle.cabinet.specs.declared.party.Party.{Party}
use Rattle.cabinet.specs.declared.state.State.{State}

abbrev pub queue_of : State → List Party
queue_of s = contents s.queue

abbrev pub model : State → Model
model s = record { holder = s.holder; inside = s.inside; asked = s.asked; queue = queue_of s }
