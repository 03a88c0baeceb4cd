-- A line between the naming of the post and the planting.
use Rattle.std.specs.Prelude.{◌≡◌, Ok, Err, Result}
use Rattle.cable.specs.declared.refusal.Refusal.{Refusal}
use Rattle.script.specs.Obeying.{Obeys}
use Rattle.script.specs.Orders.{Order, plant}
use Rattle.script.specs.Stages.{Draft, drafted}
use Rattle.script.specs.declared.answer.Answer.TheVariants.{Noted}
use Rattle.script.specs.declared.draft.obey.Next.{Next}
use Rattle.script.specs.declared.draft.obey.Next.TheVariants as next

-- it is kept, or asks for the planting, which is left to do, or is refused
abbrev pub Prepares : Draft → Order → Result Next Refusal → Draft → Type 0
Prepares d o (Ok next.Line) e = Obeys (drafted d) o (Ok Noted) (drafted e)
Prepares d o (Ok next.Plant) e = (o ≡ plant) × (e ≡ d)
Prepares d o (Err why) e = Obeys (drafted d) o (Err why) (drafted e)
