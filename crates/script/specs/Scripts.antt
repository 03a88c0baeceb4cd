-- One line of a script: what it asks for is done or refused.
use Rattle.std.specs.Prelude.{◌≡◌, ℕ, List, Ok, Err, Result}
use Rattle.cable.specs.declared.refusal.Refusal.{Refusal}
use Rattle.script.specs.Lines.{read_line}
use Rattle.script.specs.Obeying.{Obeys}
use Rattle.script.specs.Orders.{Order}
use Rattle.script.specs.Stages.{Stage, stage_of}
use Rattle.script.specs.declared.answer.Answer.{Answer}
use Rattle.script.specs.declared.script.Script.{Script}

abbrev pub held_by : Script → Stage
held_by s = stage_of s.stage

-- a line that does not read is refused, and nothing changes
abbrev pub ReadAs : Stage → Result Order Refusal → Result Answer Refusal → Stage → Type 0
ReadAs s (Ok o) a t = Obeys s o a t
ReadAs s (Err why) a t = (a ≡ Err why) × (t ≡ s)

abbrev pub Told : Stage → List ℕ → Result Answer Refusal → Stage → Type 0
Told s line a t = ReadAs s (read_line line) a t
