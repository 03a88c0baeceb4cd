-- Steps that are known by what a state means, one after the other.
use Rattle.std.proofs.Common.{◌≡◌, List, [], ◌∷◌, fold, sym, ap, ◌∙◌}
use Rattle.std.specs.List.{FoldsTo}

pub folded : {S A M : Type 0} {R : S → A → S → Type 0} (means : S → M) (does : M → A → M)
    → ((s : S) (x : A) (t : S) → R s x t → means t ≡ does (means s) x)
    → (xs : List A) (s t : S) → FoldsTo R s xs t → means t ≡ fold does (means s) xs
folded means does one [] s t ran = ap means (sym ran)
folded means does one (x ∷ xs) s t ran =
    folded means does one xs ran.0 t ran.2 ∙ ap (λ m. fold does m xs) (one s x ran.0 ran.1)
