-- What holds of every frame that a pattern decides on, in words of its own.
use Rattle.std.specs.Prelude.{◌≡◌, ℕ, ◌+◌, ◌≤◌, max, ◌≢◌}
use Rattle.wiring.specs.Patterns.{PatternModel, spare_of}
use Rattle.wiring.specs.declared.pattern.Fate.{Fate}
use Rattle.wiring.specs.declared.pattern.Fate.TheVariants.{Lost, Doubled}

-- never more than misses are lost in a row, unless more were lost before
abbrev pub LossesStayFew : ℕ → PatternModel → PatternModel → Type 0
LossesStayFew misses p q = q.losses ≤ max misses p.losses

-- a loss takes 1 from the spare, and whatever is kept renews it
pub record SpareFallsOnlyByALoss (misses : ℕ) (p : PatternModel) (f : Fate) (q : PatternModel) : Type 0 where
  pub lost : f ≡ Lost → spare_of misses p ≡ spare_of misses q + 1
  pub kept : (f ≢ Lost) → spare_of misses q ≡ misses

abbrev pub DoublesOnlyWithRoom : ℕ → Fate → Type 0
DoublesOnlyWithRoom free f = f ≡ Doubled → 2 ≤ free
