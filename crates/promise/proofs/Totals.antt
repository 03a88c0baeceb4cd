-- Sums over the numbers below a limit.
use Rattle.std.proofs.Common.{◌≡◌, ℕ, zero, suc, ◌+◌, ◌<◌, ◌≤◌, sym, refl, ap, ⊎_elim, arith}
use Rattle.std.proofs.lemmas.Bool.{cases_eq}
use Rattle.promise.specs.Promise.{total}

-- the same terms have the same sum
pub total_same : (n : ℕ) (f g : ℕ → ℕ) → ((k : ℕ) → k < n → g k ≡ f k) → total n g ≡ total n f
total_same zero f g h = refl
total_same (suc n) f g h = omega (arith, h n (omega arith), total_same n f g (λ k l. h k (omega arith)))

-- one term that changes changes the sum by as much
pub total_change : (n i : ℕ) (f g : ℕ → ℕ) → i < n → ((k : ℕ) → k < n → (k ≡ i → ⊥) → g k ≡ f k) → total n g + f i ≡ total n f + g i
total_change zero i f g l h = absurd (omega arith)
total_change (suc n) i f g l h =
    ⊎_elim
    (λ (e : n ≡ i).
    let here : f i ≡ f n = ap f (sym e) in
    let there : g i ≡ g n = ap g (sym e) in
    omega (arith, total_same n f g (λ k s. h k (omega arith) (λ j. omega arith))))
    (λ (e : n ≡ i → ⊥). omega (arith, h n (omega arith) e, total_change n i f g (omega (arith, e)) (λ k s. h k (omega arith)))) (cases_eq n i)

pub total_zero : (n : ℕ) (f : ℕ → ℕ) → ((k : ℕ) → k < n → f k ≡ 0) → total n f ≡ 0
total_zero zero f h = refl
total_zero (suc n) f h = omega (arith, h n (omega arith), total_zero n f (λ k l. h k (omega arith)))

-- a term is no more than the sum, and two terms together are not
pub total_one : (n i : ℕ) (f : ℕ → ℕ) → i < n → f i ≤ total n f
total_one zero i f l = absurd (omega arith)
total_one (suc n) i f l =
    ⊎_elim (λ (e : n ≡ i). let here : f i ≡ f n = ap f (sym e) in omega arith)
    (λ (e : n ≡ i → ⊥). omega (arith, total_one n i f (omega (arith, e)))) (cases_eq n i)

pub total_two : (n i j : ℕ) (f : ℕ → ℕ) → i < j → j < n → f i + f j ≤ total n f
total_two zero i j f a b = absurd (omega arith)
total_two (suc n) i j f a b =
    ⊎_elim (λ (e : n ≡ j). let here : f j ≡ f n = ap f (sym e) in omega (arith, total_one n i f (omega arith)))
    (λ (e : n ≡ j → ⊥). omega (arith, total_two n i j f a (omega (arith, e)))) (cases_eq n j)
