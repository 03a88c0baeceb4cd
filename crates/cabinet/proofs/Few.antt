-- A cabinet of a tree has at most fifteen neighbours: of sixteen numbers, its own is none.
use Rattle.std.proofs.Common.{◌≡◌, ℕ, zero, suc, ◌+◌, ◌<◌, ◌≤◌, Bool, true, false, cond, List, [], ◌∷◌, length, get_or, Some, None, Option, refl, ap, ◌∙◌, ⊎_elim, arith}
use Rattle.std.proofs.lemmas.Bool.{cases_lt}
use Rattle.std.proofs.lemmas.Bool.Decides.{nat_tests}
use Rattle.cable.specs.declared.number.CabinetNo.{CabinetNo}
use Rattle.tree.proofs.Cables.{neighbours_mutual, neighbours_other, neighbours_within}
use Rattle.tree.specs.Trees.{ordered, neighbours, has_cable, parent_of}
use Rattle.cabinet.specs.Kept.{knows, many}
use Rattle.cabinet.specs.Planted.{holder_in}
use Rattle.cabinet.specs.declared.party.Party.TheVariants.{Own, Neighbour}

-- no member from l on
abbrev NoneFrom : ℕ → List Bool → Type 0
NoneFrom l bs = (n : ℕ) → l ≤ n → get_or bs n false ≡ false

bit : (b : Bool) → cond {A = ℕ} b 1 0 ≤ 1
bit true = omega arith
bit false = omega arith

none_many : (bs : List Bool) → NoneFrom 0 bs → many bs ≡ 0
none_many [] h = refl
none_many (b ∷ bs) h = omega (arith, ap (λ t. cond {A = ℕ} t 1 0) (h 0 (omega arith)), none_many bs (λ n l. h (suc n) (omega arith)))

many_le : (bs : List Bool) (l : ℕ) → NoneFrom l bs → many bs ≤ l
many_le bs zero h = omega (arith, none_many bs h)
many_le [] (suc l) h = omega arith
many_le (b ∷ bs) (suc l) h = omega (arith, bit b, many_le bs l (λ n e. h (suc n) (omega arith)))

many_lt : (bs : List Bool) (l k : ℕ) → NoneFrom l bs → k < l → get_or bs k false ≡ false → many bs + 1 ≤ l
many_lt bs zero k h s e = absurd (omega arith)
many_lt [] (suc l) k h s e = omega arith
many_lt (b ∷ bs) (suc l) zero h s e = omega (arith, ap (λ t. cond {A = ℕ} t 1 0) e, many_le bs l (λ n x. h (suc n) (omega arith)))
many_lt (b ∷ bs) (suc l) (suc k) h s e = omega (arith, bit b, many_lt bs l k (λ n x. h (suc n) (omega arith)) (omega arith) e)

module _ (ps : List CabinetNo) (o : ordered 0 ps ≡ true) (small : length ps ≤ 16) (bs : List Bool) (k : ℕ)
    (near : (n : ℕ) → get_or bs n false ≡ neighbours ps k n) where
  pub few_neighbours : k < 16 → many bs ≤ 15
  few_neighbours l =
      omega
      (arith, many_lt bs 16 k (λ n far. near n ∙ neighbours_within ps o k n (omega arith)) l (near k ∙ neighbours_other ps o k))

  -- a number that no cabinet can have is nobody's neighbour
  none_past : 16 ≤ k → NoneFrom 0 bs
  none_past far n l = near n ∙ neighbours_mutual ps k n ∙ neighbours_within ps o n k (omega arith)

  pub few_neighbours_of_any : many bs ≤ 15
  few_neighbours_of_any = ⊎_elim few_neighbours (λ far. omega (arith, none_many bs (none_past far))) (cases_lt k 16)

  by_cable : (b : Bool) → has_cable ps k ≡ b
      → knows bs (elim (cond {A = Option CabinetNo} b (Some (record { 0 = parent_of ps k })) None) [ None ↦ Own | Some p ↦ Neighbour p ]) ≡ true
  by_cable true e = near (parent_of ps k) ∙ (let n : neighbours ps k (parent_of ps k) ≡ true = grind (arith, nat_tests) in n)
  by_cable false e = refl

  pub parent_known : knows bs (holder_in ps k) ≡ true
  parent_known = by_cable (has_cable ps k) refl
