-- Tables seen through what their elements mean: one that is written among many, many that are alike, and what holds of every one.
use Rattle.std.proofs.Common.{◌≡◌, ℕ, zero, suc, List, [], ◌∷◌, map, get_or, replicate, refl, slice_index_or}
use Rattle.std.proofs.lemmas.Bool.Decides.{nat_tests}
use Rattle.std.proofs.lemmas.Grind.{get_or-set_at}
use Rattle.std.proofs.lemmas.List.{get_or-map, get_or-set_other, length-map, length-set, map-set}

-- for `grind`: one that was written, and the others
pub ruleset one_written = (nat_tests, get_or-map, map-set, get_or-set_at, get_or-set_other, length-map, length-set)

-- the same at every place, and beyond the last
pub all_same : {X Y : Type 0} (f : X → Y) (n : ℕ) (x : X) (y : Y) → f x ≡ y → (k : ℕ) → get_or (map f (replicate n x)) k y ≡ y
all_same f zero x y is k = refl
all_same f (suc n) x y is zero = is
all_same f (suc n) x y is (suc k) = all_same f n x y is k

-- what holds of every element, and beyond the last
module _ {X Y : Type 0} (view : X → Y) (blank : Y) where
  pub of_every : (P : Y → Type 0) → P blank → ((x : X) → P (view x)) → (xs : List X) (k : ℕ) → P (slice_index_or (map view xs) k blank)
  of_every P b h [] k = b
  of_every P b h (x ∷ xs) zero = h x
  of_every P b h (x ∷ xs) (suc k) = of_every P b h xs k
