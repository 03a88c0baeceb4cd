-- The lines of an input, each kept up to a limit. The last one counts also where no line feed ends it.
use Rattle.std.specs.Prelude.{ℕ, cond, List, [], ◌∷◌, ◌==◌}
use Rattle.text.specs.Lines.{kept}

abbrev pub last_line : List ℕ → List (List ℕ)
last_line [] = []
last_line (b ∷ bs) = (b ∷ bs) ∷ []

-- of the line that has begun, this was kept
abbrev pub lines_from : List ℕ → List ℕ → List (List ℕ)
lines_from line [] = last_line line
lines_from line (b ∷ bs) = cond (b == 10) (line ∷ lines_from [] bs) (lines_from (kept line b) bs)

abbrev pub lines_of : List ℕ → List (List ℕ)
lines_of bytes = lines_from [] bytes

-- a listener handles lines, one after the other
pub data Handles {L : Type 0} (handles : L → List ℕ → L → Type 0) : L → List (List ℕ) → L → Type 0 where
  nothing : {p : L} → Handles handles p [] p
  line : {p q r : L} {l : List ℕ} {ls : List (List ℕ)} → handles p l q → Handles handles q ls r → Handles handles p (l ∷ ls) r
