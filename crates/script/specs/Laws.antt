-- What is promised of every script.
use Rattle.std.specs.Prelude.{ℕ, ◌≤◌, List, IfErr, Result}
use Rattle.cable.specs.Refusals.{number_of}
use Rattle.cable.specs.declared.refusal.Refusal.{Refusal}
use Rattle.script.specs.Scripts.{Told}
use Rattle.script.specs.Stages.{Stage, unnamed}
use Rattle.script.specs.declared.answer.Answer.{Answer}

-- a stage to which a script comes that began new
pub data Comes : Stage → Type 0 where
  new : Comes unnamed
  told : {t : Stage} (s : Stage) (line : List ℕ) (a : Result Answer Refusal) → Comes s → Told s line a t → Comes t

-- not refused by a cabinet or a post from inside a call: by 18 to 21
abbrev pub NotFromInside : Result Answer Refusal → Type 0
NotFromInside a = IfErr a (λ why. 18 ≤ number_of why → number_of why ≤ 21 → ⊥)
