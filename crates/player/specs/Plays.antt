-- A script that is played: its lines one after the other, and all that they print.
use Rattle.std.specs.Prelude.{ℕ, List, [], ◌∷◌, ◌++◌, Result}
use Rattle.cable.specs.declared.refusal.Refusal.{Refusal}
use Rattle.script.specs.Printing.{printed}
use Rattle.script.specs.Scripts.{Told}
use Rattle.script.specs.Stages.{Stage}
use Rattle.script.specs.declared.answer.Answer.{Answer}

pub data Plays : Stage → List (List ℕ) → List ℕ → Stage → Type 0 where
  over : {s : Stage} → Plays s [] [] s
  line : {s t u : Stage} {l : List ℕ} {ls : List (List ℕ)} {text : List ℕ} (a : Result Answer Refusal) → Told s l a t → Plays t ls text u
      → Plays s (l ∷ ls) (printed a ++ text) u
