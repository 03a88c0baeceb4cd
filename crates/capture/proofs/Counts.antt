-- A kind has two fields behind it.
use Rattle.std.proofs.Common.{◌≡◌, ◌≢◌, ℕ, List, [], ◌∷◌, length, Err, refl}
use Rattle.cable.specs.declared.frame.Kind.{Kind}
use Rattle.cable.specs.declared.refusal.Refusal.TheVariants.{WrongFieldCount}
use Rattle.capture.specs.Translations.{from_words}

pub not_two : (k : Kind) (fs : List (List ℕ)) → length fs ≢ 2 → from_words k fs ≡ Err WrongFieldCount
not_two k [] h = refl
not_two k (a ∷ []) h = refl
not_two k (a ∷ b ∷ []) h = absurd (h refl)
not_two k (a ∷ b ∷ c ∷ fs) h = refl
