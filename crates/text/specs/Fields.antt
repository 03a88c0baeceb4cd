-- A line's fields: what stands between its separators, in order. A line with no separator is one field.
use Rattle.std.specs.Prelude.{◌≡◌, ℕ, ◌+◌, cond, List, [], ◌∷◌, length, IfSome, Some, None, Option, ◌==◌}
use Rattle.std.specs.Borrow.{Bor}

-- one byte more at the front of the first field
abbrev pub longer : ℕ → List (List ℕ) → List (List ℕ)
longer c [] = (c ∷ []) ∷ []
longer c (f ∷ fs) = (c ∷ f) ∷ fs

abbrev pub fields : ℕ → List ℕ → List (List ℕ)
fields s [] = [] ∷ []
fields s (c ∷ cs) = cond (c == s) ([] ∷ fields s cs) (longer c (fields s cs))

-- the fields of what follows a field, where something follows
abbrev pub others : ℕ → Option (Bor (List ℕ)) → List (List ℕ)
others s None = []
others s (Some more) = fields s more.now

-- a line cut behind its first field: its fields are that one and those of the rest, and only the separator is gone
pub record Cut (s : ℕ) (line : List ℕ) (r : Bor (List ℕ) × Option (Bor (List ℕ))) : Type 0 where
  pub parts : fields s line ≡ r.0.now ∷ others s r.1
  pub sizes : IfSome r.1 (λ more. length r.0.now + (1 + length more.now) ≡ length line)
