-- Words, each the name of something.
use Rattle.std.specs.Prelude.{ℕ, cond, List, [], ◌∷◌, Some, None, Option}
use Rattle.std.specs.Str.{bytes_eq}

-- the one among some things whose name the field is
abbrev pub named : {A : Type 0} → (A → List ℕ) → List ℕ → List A → Option A
named name field [] = None
named name field (a ∷ more) = cond (bytes_eq field (name a)) (Some a) (named name field more)
