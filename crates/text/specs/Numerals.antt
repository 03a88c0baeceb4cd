-- Numbers as lines have them.
use Rattle.std.specs.Prelude.{ℕ, ◌+◌, ◌-◌, ◌*◌, Bool, cond, not, ◌&&◌, ◌||◌, List, [], ◌∷◌, length, Some, None, Option, ◌==◌, nat_le, nat_lt, slice_index}
use Rattle.std.specs.Char.{is_ascii_digit}

-- the number that the digits make behind those of n, or none if one of them is no digit
abbrev pub read_on : ℕ → List ℕ → Option ℕ
read_on n [] = Some n
read_on n (c ∷ cs) = cond (is_ascii_digit c) (read_on (10 * n + (c - 48)) cs) None

-- one to five, and a 0 in front only where it is all
abbrev pub shaped : List ℕ → Bool
shaped ds = (nat_lt 0 (length ds) && nat_le (length ds) 5) && (not (slice_index ds 0 == 48) || length ds == 1)

abbrev pub numeral : List ℕ → Option ℕ
numeral ds = cond (shaped ds) (read_on 0 ds) None
