-- A queue without repeats, over own and the neighbours and without the holder, is no longer than the neighbours are many.
use Rattle.std.proofs.Common.{◌≡◌, ℕ, zero, suc, ◌+◌, ◌<◌, ◌≤◌, Bool, true, false, cond, List, [], ◌∷◌, length, get_or, sym, refl, ap, ◌∙◌, subst, ⊎_elim, arith}
use Rattle.std.proofs.lemmas.Bool.{both_ways, cases_Bool, cases_lt}
use Rattle.std.proofs.lemmas.Bool.Decides.{nat_tests}
use Rattle.cabinet.proofs.Counting.{same_self}
use Rattle.cabinet.specs.Kept.{knows, many}
use Rattle.cabinet.specs.Parties.{same, times}
use Rattle.cabinet.specs.declared.party.Party.{Party}
use Rattle.cabinet.specs.declared.party.Party.TheVariants.{Own, Neighbour}

-- the neighbour of this number
abbrev at : ℕ → Party
at n = Neighbour (record { 0 = n })

-- how many places of the queue the cabinets from k on take, as many as there are members listed
abbrev among : ℕ → List Bool → List Party → ℕ
among k [] q = 0
among k (b ∷ bs) q = times (at k) q + among (suc k) bs q

among_nil : (k : ℕ) (bs : List Bool) → among k bs [] ≡ 0
among_nil k [] = refl
among_nil k (b ∷ bs) = omega (arith, among_nil (suc k) bs)

-- one more asker is counted once, if its number is among those listed
among_own : (k : ℕ) (bs : List Bool) (q : List Party) → among k bs (Own ∷ q) ≡ among k bs q
among_own k [] q = refl
among_own k (b ∷ bs) q = omega (arith, among_own (suc k) bs q)

among_below : (k n : ℕ) (bs : List Bool) (q : List Party) → n < k → among k bs (at n ∷ q) ≡ among k bs q
among_below k n [] q l = refl
among_below k n (b ∷ bs) q l =
    let e : cond {A = ℕ} (same (at k) (at n)) 1 0 ≡ 0 = grind (arith, nat_tests) in omega (arith, among_below (suc k) n bs q (omega arith))

among_here : (k n i : ℕ) (bs : List Bool) (q : List Party) → n ≡ k + i → i < length bs → among k bs (at n ∷ q) ≡ 1 + among k bs q
among_here k n i [] q e l = absurd (omega arith)
among_here k n zero (b ∷ bs) q e l =
    let h : cond {A = ℕ} (same (at k) (at n)) 1 0 ≡ 1 = grind (arith, nat_tests) in omega (arith, among_below (suc k) n bs q (omega arith))
among_here k n (suc i) (b ∷ bs) q e l =
    let h : cond {A = ℕ} (same (at k) (at n)) 1 0 ≡ 0 = grind (arith, nat_tests) in omega (arith, among_here (suc k) n i bs q (omega arith) (omega arith))

-- a member is listed
within : (bs : List Bool) (i : ℕ) → get_or bs i false ≡ true → i < length bs
within [] i e = absurd (grind arith)
within (b ∷ bs) zero e = omega arith
within (b ∷ bs) (suc i) e = omega (arith, within bs i e)

module _ (bs : List Bool) where
  -- all that are queued are counted
  length-among : (q : List Party) → ((p : Party) → 0 < times p q → knows bs p ≡ true) → length q ≡ times Own q + among 0 bs q
  length-among [] known = omega (arith, among_nil 0 bs)
  length-among (Own ∷ q) known = omega (arith, among_own 0 bs q, length-among q (λ p h. known p (omega arith)))
  length-among (Neighbour n ∷ q) known =
      let here : knows bs (Neighbour n) ≡ true = known (Neighbour n) (omega (arith, ap (λ b. cond {A = ℕ} b 1 0) (same_self (Neighbour n)))) in
      omega
      (arith, among_here 0 n.0 n.0 bs q (omega arith) (within bs n.0 here), length-among q (λ p h. known p (omega arith)))

-- from k on, only members are queued, and none twice
abbrev Single : ℕ → List Bool → List Party → Type 0
Single k bs q = (i : ℕ) → times (at (k + i)) q ≤ cond (get_or bs i false) 1 0

first : (k : ℕ) (b : Bool) (bs : List Bool) (q : List Party) → Single k (b ∷ bs) q → times (at k) q ≤ cond b 1 0
first k b bs q h = subst (λ j. times (at j) q ≤ cond b 1 0) (let e : k + 0 ≡ k = omega arith in e) (h 0)

later : (k : ℕ) (b : Bool) (bs : List Bool) (q : List Party) → Single k (b ∷ bs) q → Single (suc k) bs q
later k b bs q h i =
    subst (λ j. times (at j) q ≤ cond (get_or bs i false) 1 0) (let e : k + suc i ≡ suc k + i = omega arith in e) (h (suc i))

among_le : (k : ℕ) (bs : List Bool) (q : List Party) → Single k bs q → among k bs q ≤ many bs
among_le k [] q h = omega arith
among_le k (b ∷ bs) q h = omega (arith, first k b bs q h, among_le (suc k) bs q (later k b bs q h))

-- one member that is not queued leaves one place less
among_lt : (k : ℕ) (bs : List Bool) (q : List Party) → Single k bs q
    → (j n : ℕ) → n ≡ k + j → get_or bs j false ≡ true → times (at n) q ≡ 0 → among k bs q + 1 ≤ many bs
among_lt k [] q h j n i e z = absurd (grind arith)
among_lt k (b ∷ bs) q h zero n i e z =
    let none : times (at k) q ≡ 0 = ap (λ j. times (at j) q) (let f : k ≡ n = omega arith in f) ∙ z in
    omega (arith, ap (λ t. cond {A = ℕ} t 1 0) e, among_le (suc k) bs q (later k b bs q h))
among_lt k (b ∷ bs) q h (suc j) n i e z =
    omega (arith, first k b bs q h, among_lt (suc k) bs q (later k b bs q h) j n (omega arith) e z)

module _ (bs : List Bool) (q : List Party) (once : (p : Party) → times p q ≤ 1) (known : (p : Party) → 0 < times p q → knows bs p ≡ true) where
  single : Single 0 bs q
  single i =
      let k : 0 + i ≡ i = omega arith in
      subst (λ j. times (at j) q ≤ cond (get_or bs i false) 1 0) (sym k)
      (⊎_elim
      (λ (e : get_or bs i false ≡ true). omega (arith, once (at i), ap (λ t. cond {A = ℕ} t 1 0) e))
      (λ (e : get_or bs i false ≡ false). ⊎_elim
      (λ (l : 0 < times (at i) q). absurd (both_ways _ e (known (at i) l)))
      (λ (l : times (at i) q ≤ 0). omega arith) (cases_lt 0 (times (at i) q)))
      (cases_Bool (get_or bs i false)))

  pub no_more_than_neighbours : (holder : Party) → times holder q ≡ 0 → knows bs holder ≡ true → length q ≤ many bs
  no_more_than_neighbours Own z near = omega (arith, length-among bs q known, among_le 0 bs q single)
  no_more_than_neighbours (Neighbour n) z near =
      omega (arith, once Own, length-among bs q known, among_lt 0 bs q single n.0 n.0 (omega arith) near z)
