-- Who stands ahead of whom in a queue.
use Rattle.std.proofs.Common.{◌≡◌, ℕ, ◌<◌, Bool, true, false, cond, List, [], ◌∷◌, ◌++◌, sym, refl, ◌∙◌, ⊎_elim, arith}
use Rattle.std.proofs.lemmas.Bool.{cases_Bool, cond-true, cond-false}
use Rattle.cabinet.proofs.Counting.{same_self}
use Rattle.cabinet.specs.Parties.{same, times}
use Rattle.cabinet.specs.declared.party.Party.{Party}

-- a comes before the first b; without a b, it is enough that a is there
abbrev pub ahead : Party → Party → List Party → Bool
ahead a b [] = false
ahead a b (x ∷ q) = cond (same a x) true (cond (same b x) false (ahead a b q))

-- whoever joins behind b changes nothing ahead of it
pub ahead-push : (a b x : Party) (q : List Party) → 0 < times b q → ahead a b (q ++ x ∷ []) ≡ ahead a b q
ahead-push a b x [] h = absurd (omega arith)
ahead-push a b x (y ∷ q) h =
    ⊎_elim (λ (s : same a y ≡ true). cond-true _ _ _ s ∙ sym (cond-true _ _ _ s))
    (λ (s : same a y ≡ false). ⊎_elim
    (λ (t : same b y ≡ true). cond-false _ _ _ s ∙ cond-true _ _ _ t ∙ sym (cond-false _ _ _ s ∙ cond-true _ _ _ t))
    (λ (t : same b y ≡ false).
    cond-false _ _ _ s ∙ cond-false _ _ _ t ∙ ahead-push a b x q (omega (arith, cond-false {A = ℕ} (same b y) 1 0 t))
    ∙ sym (cond-false _ _ _ s ∙ cond-false _ _ _ t)) (cases_Bool (same b y))) (cases_Bool (same a y))

-- one that is neither leaves from the front
pub ahead-rest : (a b x : Party) (q : List Party) → same a x ≡ false → same b x ≡ false → ahead a b (x ∷ q) ≡ ahead a b q
ahead-rest a b x q s t = cond-false _ _ _ s ∙ cond-false _ _ _ t

-- who is not there is ahead of nobody
pub not_ahead : (a b : Party) (q : List Party) → times a q ≡ 0 → ahead a b q ≡ false
not_ahead a b [] h = refl
not_ahead a b (x ∷ q) h =
    ⊎_elim (λ (s : same a x ≡ true). absurd (omega (arith, cond-true {A = ℕ} (same a x) 1 0 s)))
    (λ (s : same a x ≡ false). ⊎_elim (λ (t : same b x ≡ true). cond-false _ _ _ s ∙ cond-true _ _ _ t)
    (λ (t : same b x ≡ false). cond-false _ _ _ s ∙ cond-false _ _ _ t ∙ not_ahead a b q (omega (arith, cond-false {A = ℕ} (same a x) 1 0 s)))
    (cases_Bool (same b x))) (cases_Bool (same a x))

-- who stands behind b, which is there, is not ahead of it
pub behind-push : (a b : Party) (q : List Party) → 0 < times b q → times a q ≡ 0 → ahead a b (q ++ a ∷ []) ≡ false
behind-push a b q h n = ahead-push a b a q h ∙ not_ahead a b q n

-- the foremost is ahead of all others
pub front_ahead : (a b : Party) (q : List Party) → ahead a b (a ∷ q) ≡ true
front_ahead a b q = cond-true _ _ _ (same_self a)

pub front_not : (a b : Party) (q : List Party) → same a b ≡ false → ahead a b (b ∷ q) ≡ false
front_not a b q s = cond-false _ _ _ s ∙ cond-true _ _ _ (same_self b)
