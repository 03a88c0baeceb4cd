-- What came of a line is printed to the front of a buffer.
use Rattle.std.specs.Prelude.{◌≡◌, ℕ, ◌<◌, ◌≤◌, List, ◌++◌, length, drop, Ok, Err, Result}
use Rattle.cable.specs.declared.refusal.Refusal.{Refusal}
use Rattle.cable.specs.declared.refusal.Refusal.TheVariants.{BufferTooSmall}
use Rattle.script.specs.Laws.{Comes, NotFromInside}
use Rattle.script.specs.Printing.{printed}
use Rattle.script.specs.Scripts.{Told}
use Rattle.script.specs.Stages.{Stage}
use Rattle.script.specs.declared.answer.Answer.{Answer}

-- the text stands in front, and the other bytes are what they were
pub record Written (text old : List ℕ) (r : Result ℕ Refusal) (new : List ℕ) : Type 0 where
  pub count : r ≡ Ok (length text)
  pub bytes : new ≡ text ++ drop (length text) old

pub record Runs (s : Stage) (line old : List ℕ) (r : Result ℕ Refusal) (t : Stage) (new : List ℕ) : Type 0 where
  pub small : length old < 64 → (r ≡ Err BufferTooSmall) × (t ≡ s) × (new ≡ old)
  pub room : 64 ≤ length old → (a : Result Answer Refusal) × Told s line a t × (Comes s → NotFromInside a) × Written (printed a) old r new
