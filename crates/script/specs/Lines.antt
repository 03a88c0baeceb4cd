-- What a line says: one of nine words, and the fields that it takes. The grounds for refusing are checked in the order of their
-- numbers.
use Rattle.std.specs.Prelude.{ℕ, cond, List, [], ◌∷◌, length, Some, None, Ok, Err, Option, Result, nat_lt}
use Rattle.cable.specs.declared.refusal.Refusal.{Refusal}
use Rattle.cable.specs.declared.refusal.Refusal.TheVariants.{LineTooLong, UnknownWord, WrongFieldCount, Malformed}
use Rattle.text.specs.Fields.{fields}
use Rattle.text.specs.Numerals.{numeral}
use Rattle.wiring.specs.Letters.{parsed}
use Rattle.script.specs.Orders.{Order, post, misses, pattern, cabinet, plant, want, leave, sweep, bound}
use Rattle.script.specs.Words.{word_named, words, kind_named, kinds}
use Rattle.script.specs.declared.word.Word.{Word}
use Rattle.script.specs.declared.word.Word.TheVariants.{Post, Misses, Pattern, Cabinet, Plant, Want, Leave, Sweep, Bound}

-- one field behind the word, which has to read as an A
abbrev pub one : {A : Type 0} → (List ℕ → Option A) → List (List ℕ) → Result A Refusal
one read [] = Err WrongFieldCount
one read (f ∷ []) = elim (read f) [ None ↦ Err Malformed | Some a ↦ Ok a ]
one read (f ∷ g ∷ fs) = Err WrongFieldCount

abbrev pub both : {A B : Type 0} → Option A → Option B → Result (A × B) Refusal
both None b = Err Malformed
both (Some a) None = Err Malformed
both (Some a) (Some b) = Ok (a, b)

-- two fields behind the word, an A and a B
abbrev pub two : {A B : Type 0} → (List ℕ → Option A) → (List ℕ → Option B) → List (List ℕ) → Result (A × B) Refusal
two read_a read_b [] = Err WrongFieldCount
two read_a read_b (f ∷ []) = Err WrongFieldCount
two read_a read_b (f ∷ g ∷ []) = both (read_a f) (read_b g)
two read_a read_b (f ∷ g ∷ h ∷ fs) = Err WrongFieldCount

abbrev pub made : {A B : Type 0} → (A → B) → Result A Refusal → Result B Refusal
made f (Ok a) = Ok (f a)
made f (Err why) = Err why

abbrev pub asked : Word → List (List ℕ) → Result Order Refusal
asked Post fs = made post (one (λ f. kind_named f kinds) fs)
asked Misses fs = made misses (one numeral fs)
asked Pattern fs = made (λ p. pattern p.0 p.1) (two numeral parsed fs)
asked Cabinet fs = made (λ p. cabinet p.0 p.1) (two numeral numeral fs)
asked Plant [] = Ok plant
asked Plant (f ∷ fs) = Err WrongFieldCount
asked Want fs = made want (one numeral fs)
asked Leave fs = made leave (one numeral fs)
asked Sweep fs = made sweep (one numeral fs)
asked Bound fs = made bound (one numeral fs)

-- the fields of a line, of which the first is its word
abbrev pub said : List (List ℕ) → Result Order Refusal
said [] = Err UnknownWord
said (f ∷ fs) = elim (word_named f words) [ None ↦ Err UnknownWord | Some w ↦ asked w fs ]

abbrev pub read_line : List ℕ → Result Order Refusal
read_line line = cond (nat_lt 80 (length line)) (Err LineTooLong) (said (fields 9 line))
