-- Names that are read by a `match` on the field.
use Rattle.std.proofs.Common.{◌≡◌, ℕ, List, Some, sym, subst}
use Rattle.text.specs.Words.{named}

-- a field that is the name of a names a, where that name does
pub named_so : {A : Type 0} (name : A → List ℕ) (all : List A) (a : A) → Some a ≡ named name (name a) all → (field : List ℕ) → field ≡ name a
    → Some a ≡ named name field all
named_so name all a own field e = subst (λ t. Some a ≡ named name t all) (sym e) own
