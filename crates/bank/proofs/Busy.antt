-- Looking at the lanes one after the other for a message that waits.
use Rattle.std.proofs.Common.{◌≡◌, ℕ, zero, suc, ◌+◌, ◌<◌, ◌≤◌, true, false, ◌||◌, ltb, List, [], ◌∷◌, length, Ok, refl, ap, ◌∙◌, subst, ⊎_elim, add-one, arith}
use Rattle.std.proofs.lemmas.Bool.{or_right, cases_eq, cond-true, lt-ltb}
use Rattle.cable.specs.Numbers.{lanes}
use Rattle.cable.specs.declared.message.Message.{Message}
use Rattle.post.specs.Posts.{PostModel, count_of}
use Rattle.promise.specs.Calls.{any_of, busy_below}

some_wait : (ms : List Message) → 0 < length ms → any_of ms ≡ true
some_wait [] l = absurd (omega arith)
some_wait (m ∷ ms) l = refl

none_wait : (ms : List Message) → length ms ≤ 0 → any_of ms ≡ false
none_wait [] l = refl
none_wait (m ∷ ms) l = absurd (omega arith)

-- what a count of a lane tells
count_told : (p : PostModel) (l n : ℕ) → l < lanes → Ok n ≡ count_of p l → n ≡ length (p.waiting l)
count_told p l n within e = let t : ltb l lanes ≡ true = lt-ltb l lanes within in let f = e ∙ cond-true _ _ _ t in cc

-- busy below k, and so below any later lane
busy_on : (waiting : ℕ → List Message) (k n : ℕ) → k ≤ n → busy_below waiting k ≡ true → busy_below waiting n ≡ true
busy_on waiting k zero l b = subst (λ j. busy_below waiting j ≡ true) (let z : k ≡ 0 = omega arith in z) b
busy_on waiting k (suc n) l b =
    ⊎_elim (λ (e : k ≡ suc n). subst (λ j. busy_below waiting j ≡ true) e b)
    (λ (e : k ≡ suc n → ⊥). or_right (any_of (waiting n)) (busy_below waiting n) (busy_on waiting k n (omega (arith, e)) b)) (cases_eq k (suc n))

module _ (p : PostModel) (k n : ℕ) where
  -- lane k was counted, and n messages wait there
  pub busy_at : k < lanes → Ok n ≡ count_of p k → 0 < n → busy_below p.waiting lanes ≡ true
  busy_at l told some =
      busy_on p.waiting (suc k) lanes l
      (ap (λ b. b || busy_below p.waiting k) (some_wait (p.waiting k) (omega (arith, count_told p k n l told))))

  pub idle_more : k < lanes → Ok n ≡ count_of p k → n ≤ 0 → busy_below p.waiting k ≡ false → busy_below p.waiting (k + 1) ≡ false
  idle_more l told none b =
      ap (busy_below p.waiting) (add-one k)
      ∙ ap (λ a. a || busy_below p.waiting k) (none_wait (p.waiting k) (omega (arith, count_told p k n l told))) ∙ b

pub idle_all : (p : PostModel) (k : ℕ) → k ≡ lanes → busy_below p.waiting k ≡ false → busy_below p.waiting lanes ≡ false
idle_all p k e b = subst (λ j. busy_below p.waiting j ≡ false) e b
