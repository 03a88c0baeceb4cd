-- Where a line's first field ends: bytes that are no separator go before the first field of what follows them.
use Rattle.std.proofs.Common.{◌≡◌, ℕ, zero, suc, ◌+◌, ◌<◌, ◌≤◌, eqb, List, [], ◌∷◌, length, get_or, take, drop, ap, refl, arith, add-one}
use Rattle.std.proofs.lemmas.Grind.{common_steps}
use Rattle.std.proofs.lemmas.Bool.{cond_both}
use Rattle.std.specs.List.{slice_split, onto_first}
use Rattle.text.specs.Fields.{fields, longer}

-- no separator among the first n
abbrev pub Clear : ℕ → List ℕ → ℕ → Type 0
Clear s xs n = (k : ℕ) → k < n → get_or xs k 0 ≡ s → ⊥

pub clear_end : (s : ℕ) (xs : List ℕ) → Clear s xs (length xs) → fields s xs ≡ xs ∷ []
clear_end s [] h = refl
clear_end s (c ∷ cs) h = grind (arith, common_steps, h 0, clear_end s cs (λ k l. h (suc k) (omega arith)))

pub clear_more : (s : ℕ) (xs : List ℕ) (n : ℕ) → n < length xs → Clear s xs n → get_or xs n 0 ≡ s
    → fields s xs ≡ take n xs ∷ fields s (drop (n + 1) xs)
clear_more s [] n l h here = absurd (omega arith)
clear_more s (c ∷ cs) zero l h here = grind arith
clear_more s (c ∷ cs) (suc n) l h here =
    grind (arith, add-one, h 0, clear_more s cs n (omega arith) (λ k l. h (suc k) (omega arith)) here)

longer_is_onto : (c : ℕ) (fs : List (List ℕ)) → longer c fs ≡ onto_first c fs
longer_is_onto c [] = refl
longer_is_onto c (f ∷ fs) = refl

-- a line's fields are the parts that `split` gives
pub fields_split : (s : ℕ) (xs : List ℕ) → fields s xs ≡ slice_split (λ b. eqb b s) xs
fields_split s [] = refl
fields_split s (c ∷ cs) = let t = fields_split s cs in simp (t, longer_is_onto)

-- a line has a first field
pub fields_some : (s : ℕ) (xs : List ℕ) → (f : List ℕ) × (fs : List (List ℕ)) × (fields s xs ≡ f ∷ fs)
fields_some s [] = ([], [], refl)
fields_some s (c ∷ cs) =
    let t = fields_some s cs in
    cond_both (eqb c s) ([] ∷ fields s cs) (longer c (fields s cs)) (λ l. (f : List ℕ) × (fs : List (List ℕ)) × (l ≡ f ∷ fs))
    (λ e. ([], fields s cs, refl)) (λ e. (c ∷ t.0, t.1, ap (longer c) t.2))

pub many_fields : (s : ℕ) (xs : List ℕ) → 1 ≤ length (fields s xs)
many_fields s xs = let t = fields_some s xs in omega (arith, ap length t.2)
