-- How often a party stands in a queue.
use Rattle.std.proofs.Common.{◌≡◌, ℕ, zero, suc, ◌+◌, ◌<◌, Bool, true, false, ltb, List, [], ◌∷◌, ◌++◌, length, sym, refl, arith}
use Rattle.std.proofs.lemmas.Bool.{lt-ltb, le-ltb, cond-true, cond-false}
use Rattle.std.proofs.lemmas.Bool.Decides.{nat_tests as tells}
use Rattle.std.specs.List.{IsAnyAnswer, AllWithin, HoldsAt}
use Rattle.cabinet.specs.Parties.{same, times}
use Rattle.cabinet.specs.declared.party.Party.{Party}
use Rattle.cabinet.specs.declared.party.Party.TheVariants.{Own, Neighbour}

pub times_has : (p : Party) (xs : List Party) (k : ℕ) → k < length xs → HoldsAt (λ y. same p y ≡ true) xs k → 0 < times p xs
times_has p [] k l h = absurd (omega arith)
times_has p (x ∷ xs) zero l h = omega (arith, cond-true {A = ℕ} (same p x) 1 0 (h x))
times_has p (x ∷ xs) (suc k) l h = omega (arith, times_has p xs k (omega arith) h)

pub times_none : (p : Party) (xs : List Party) → AllWithin (λ y. same p y ≡ false) xs 0 (length xs) → times p xs ≡ 0
times_none p [] h = refl
times_none p (x ∷ xs) h =
    omega (arith, cond-false {A = ℕ} (same p x) 1 0 (h 0 x (omega arith) (omega arith)), times_none p xs (λ k d low high. h (suc k) d (omega arith) (omega arith)))

-- what a look through a queue tells
pub times_told : (E : Party → Bool → Type 0) (p : Party) → ((y : Party) (b : Bool) → E y b → same p y ≡ b) → (xs : List Party) (r : Bool)
    → IsAnyAnswer E xs r → r ≡ ltb 0 (times p xs)
times_told E p tells xs true h = sym (lt-ltb 0 (times p xs) (times_has p xs h.0 h.1 (λ d. tells _ _ (h.2 d))))
times_told E p tells xs false h = sym (le-ltb 0 (times p xs) (omega (arith, times_none p xs (λ k d low high. tells _ _ (h k d low high)))))

pub times-append : (p : Party) (xs ys : List Party) → times p (xs ++ ys) ≡ times p xs + times p ys
times-append p [] ys = omega arith
times-append p (x ∷ xs) ys = omega (arith, times-append p xs ys)

pub same_self : (p : Party) → same p p ≡ true
same_self Own = refl
same_self (Neighbour n) = grind (arith, tells)

pub same_sym : (p q : Party) → same p q ≡ same q p
same_sym Own Own = refl
same_sym Own (Neighbour n) = refl
same_sym (Neighbour m) Own = refl
same_sym (Neighbour m) (Neighbour n) = grind (arith, tells)

pub same_is : (p q : Party) → same p q ≡ true → p ≡ q
same_is Own Own e = refl
same_is Own (Neighbour n) e = absurd (grind arith)
same_is (Neighbour m) Own e = absurd (grind arith)
same_is (Neighbour m) (Neighbour n) e = grind (arith, tells)
