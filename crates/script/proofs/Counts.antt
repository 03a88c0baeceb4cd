-- Words that have another number of fields behind them than they take.
use Rattle.std.proofs.Common.{◌≡◌, ◌≢◌, ℕ, List, [], ◌∷◌, length, Err, Option, refl}
use Rattle.cable.specs.declared.refusal.Refusal.TheVariants.{WrongFieldCount}
use Rattle.text.specs.Fields.{fields}
use Rattle.text.proofs.Cuts.{fields_some}
use Rattle.script.specs.Lines.{one, two, asked}
use Rattle.script.specs.declared.word.Word.TheVariants.{Plant}

pub not_one : {A : Type 0} (read : List ℕ → Option A) (fs : List (List ℕ)) → length fs ≢ 1 → one read fs ≡ Err WrongFieldCount
not_one read [] h = refl
not_one read (f ∷ []) h = absurd (h refl)
not_one read (f ∷ g ∷ fs) h = refl

pub not_two : {A B : Type 0} (read_a : List ℕ → Option A) (read_b : List ℕ → Option B) (fs : List (List ℕ)) → length fs ≢ 2
    → two read_a read_b fs ≡ Err WrongFieldCount
not_two read_a read_b [] h = refl
not_two read_a read_b (f ∷ []) h = refl
not_two read_a read_b (f ∷ g ∷ []) h = absurd (h refl)
not_two read_a read_b (f ∷ g ∷ k ∷ fs) h = refl

-- a word that takes no field has some
pub more_than_none : (xs : List ℕ) → asked Plant (fields 9 xs) ≡ Err WrongFieldCount
more_than_none xs = let t = fields_some 9 xs in rw t.2 refl
