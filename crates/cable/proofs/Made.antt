-- What holds of every element of an array that a closure made, if each call leaves the closure as it was.
use Rattle.std.proofs.Common.{◌≡◌, ℕ, zero, suc, ◌+◌, ◌<◌, ◌≤◌, List, get_or, sym, refl, subst, ⊎_elim, arith}
use Rattle.std.proofs.lemmas.Bool.{cases_eq}
use Rattle.std.specs.Array.{IsFromFnResult, IsFromFnResultFrom}
use Rattle.std.specs.Fn.{Called}
use denote.Param.Members.{Mut}

module _ {F B : Type 0} {g : Mut F (ℕ × Unit {0}) B} {f : F} (P : ℕ → B → Type 0) (n : ℕ)
    (call : (i : ℕ) (y : B) (q : F) → i < n → Called g f (i, tt) y q → (q ≡ f) × P i y) where
  from : (ys : List B) (i m : ℕ) (p : F) → i + m ≡ n → p ≡ f → IsFromFnResultFrom g p ys i m → (k : ℕ) (d : B) → i ≤ k → k < n → P k (get_or ys k d)
  from ys i zero p e is r k d low high = absurd (omega arith)
  from ys i (suc m) p e is r k d low high =
      let here = call i r.1 r.0 (omega arith) (subst (λ x. Called g x (i, tt) r.1 r.0) is r.3) in
      ⊎_elim
      (λ (s : k ≡ i). subst (λ j. P j (get_or ys j d)) (sym s) (subst (P i) (sym (r.2.1 d)) here.1))
      (λ (s : k ≡ i → ⊥). from ys (i + 1) m r.0 (omega arith) here.0 r.4 k d (omega (arith, s)) high) (cases_eq k i)

  pub made : {ys : List B} → IsFromFnResult g f ys n → (k : ℕ) (d : B) → k < n → P k (get_or ys k d)
  made r k d l = from _ 0 n f (omega arith) refl r.each k d (omega arith) l
