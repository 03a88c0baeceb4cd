-- What a pattern decides is a loss or a keep, as any wiring may have it.
use Rattle.std.specs.Prelude.{◌≡◌, ℕ, ◌+◌, ◌-◌, ◌<◌, ◌≤◌, List, [], ◌∷◌, ◌++◌, length, replicate}
use Rattle.std.proofs.Common.{inl, ap, ◌∙◌, arith}
use Rattle.std.proofs.lemmas.List.{append_assoc}
use Rattle.std.proofs.lemmas.Bool.Decides.{nat_tests}
use Rattle.wiring.specs.Letters.{letter_at}
use Rattle.wiring.specs.Patterns.{fate_by, spare_of}
use Rattle.wiring.specs.declared.letter.Letter.{Letter}
use Rattle.wiring.specs.declared.letter.Letter.TheVariants.{Keep, Double, Lose}
use Rattle.wiring.specs.declared.pattern.Fate.{Fate}
use Rattle.wiring.specs.declared.pattern.Fate.TheVariants.{Lost, Kept, Doubled}
use Rattle.wiring.specs.Line.{LineModel, patterned_depth, carried, sent_on}
use Rattle.wiring.specs.Meaning.{Decides, keeps_copies}

-- what a fate asks: a frame is lost only with a spare, and doubled only with room for two
abbrev Allowed : Fate → ℕ → ℕ → ℕ → Type 0
Allowed Lost losses misses free = losses < misses
Allowed Kept losses misses free = Unit {0}
Allowed Doubled losses misses free = 2 ≤ free

allowed : (x : Letter) (losses misses free : ℕ) → Allowed (fate_by x losses misses free) losses misses free
allowed Keep losses misses free = tt
allowed Double losses misses free = grind (arith, nat_tests)
allowed Lose losses misses free = grind (arith, nat_tests)

module _ (misses : ℕ) (f : List ℕ) (wire : ℕ) (w v : ℕ → LineModel) (room : length (w wire).flying < patterned_depth) where
  abbrev Decided : Type 0
  Decided = Decides patterned_depth misses (λ n. n.flying) (λ n. spare_of misses n.pattern) f wire w v

  kept_so : (copies : ℕ) → 1 ≤ copies → (v wire).flying ≡ (w wire).flying ++ replicate copies f → length (w wire).flying + copies ≤ patterned_depth
      → spare_of misses (v wire).pattern ≤ misses → Decided
  kept_so = keeps_copies patterned_depth misses (λ n. n.flying) (λ n. spare_of misses n.pattern) f wire w v

  by_fate : (fate : Fate) → Allowed fate (w wire).pattern.losses misses (patterned_depth - length (w wire).flying)
      → v wire ≡ carried fate f (w wire) → Decided
  by_fate Lost may e =
      inl (record { had = omega arith; stays = ap (λ l. l.flying) e; falls = omega (arith, ap (λ l. l.pattern.losses) e) })
  by_fate Kept may e = kept_so 1 (omega arith) (ap (λ l. l.flying) e) (omega arith) (omega arith)
  by_fate Doubled may e =
      kept_so 2 (omega arith) (ap (λ l. l.flying) e ∙ append_assoc (w wire).flying (f ∷ []) (f ∷ [])) (omega arith) (omega arith)

  pub decided : v wire ≡ sent_on misses f (w wire) → Decided
  unfolding sent_on
  decided =
      let p = (w wire).pattern in
      let x = letter_at p.letters p.turn in
      let free = patterned_depth - length (w wire).flying in
      by_fate (fate_by x p.losses misses free) (allowed x p.losses misses free)
