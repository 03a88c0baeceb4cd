-- The letters of a pattern: read from text, and used in turn.
use Rattle.std.specs.Prelude.{ℕ, ◌%◌, cond, ◌&&◌, List, [], ◌∷◌, ◌++◌, length, Some, None, Option, ◌==◌, nat_le, nat_lt, slice_index_or}
use Rattle.wiring.specs.declared.letter.Letter.{Letter}
use Rattle.wiring.specs.declared.letter.Letter.TheVariants.{Keep, Double, Lose}

-- 'k', 'd' and 'l'
abbrev pub letter_of : ℕ → Option Letter
letter_of b = cond (b == 107) (Some Keep) (cond (b == 100) (Some Double) (cond (b == 108) (Some Lose) None))

-- these letters and those that the bytes are, or none if one of them is no letter
abbrev pub read_on : List Letter → List ℕ → Option (List Letter)
read_on ls [] = Some ls
read_on ls (b ∷ bs) = elim (letter_of b) [ None ↦ None | Some l ↦ read_on (ls ++ l ∷ []) bs ]

-- one letter to sixteen
abbrev pub parsed : List ℕ → Option (List Letter)
parsed bs = cond (nat_lt 0 (length bs) && nat_le (length bs) 16) (read_on [] bs) None

-- the i-th letter; after the last comes the first again
abbrev pub letter_at : List Letter → ℕ → Letter
letter_at ls i = slice_index_or ls (i % length ls) Keep
