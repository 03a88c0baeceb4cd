-- The lines of an input that were handled so far, and those that follow.
use Rattle.std.proofs.Common.{◌≡◌, ℕ, ◌+◌, ◌<◌, ◌≤◌, List, [], ◌∷◌, ◌++◌, length, get_or, drop, eqb, false, sym, subst, arith}
use Rattle.std.proofs.lemmas.List.{drop_more}
use Rattle.text.specs.Lines.{kept}
use Rattle.lines.specs.Inputs as inputs
use Rattle.lines.specs.Inputs.{Handles, lines_from, last_line}

module _ {L : Type 0} (handles : L → List ℕ → L → Type 0) where
  pub last_none : (p : L) (xs : List ℕ) → length xs ≡ 0 → Handles handles p (last_line xs) p
  last_none p [] e = inputs.nothing
  last_none p (x ∷ xs) e = absurd (omega (arith, e))

  pub last_one : (p q : L) (xs told : List ℕ) → told ≡ xs → 1 ≤ length xs → handles p told q → Handles handles p (last_line xs) q
  last_one p q [] told is e h = absurd (omega (arith, e))
  last_one p q (x ∷ xs) told is e h = inputs.line (subst (λ ys. handles p ys q) is h) inputs.nothing

  module _ (p r : L) (bytes : List ℕ) (i : ℕ) (old new rest : List ℕ) (more : i < length bytes) where
    -- the byte at place i is the next
    abbrev next : Handles handles p (lines_from old (get_or bytes i 0 ∷ (drop (i + 1) bytes ++ rest))) r → Handles handles p (lines_from old (drop i bytes ++ rest)) r
    next h = subst (λ xs. Handles handles p (lines_from old (xs ++ rest)) r) (sym (drop_more bytes i 0 more)) h

    -- it is a line feed
    pub ended : (q : L) (told : List ℕ) → get_or bytes i 0 ≡ 10 → new ≡ [] → told ≡ old → handles p told q
        → Handles handles q (lines_from new (drop (i + 1) bytes ++ rest)) r → Handles handles p (lines_from old (drop i bytes ++ rest)) r
    ended q told feed none is h after =
        next (subst (λ n. Handles handles p (lines_from old (n ∷ (drop (i + 1) bytes ++ rest))) r) (sym feed)
        (inputs.line (subst (λ xs. handles p xs q) is h) (subst (λ xs. Handles handles q (lines_from xs (drop (i + 1) bytes ++ rest)) r) none after)))

    -- it is another
    pub went_on : (get_or bytes i 0 ≡ 10 → ⊥) → new ≡ kept old (get_or bytes i 0)
        → Handles handles p (lines_from new (drop (i + 1) bytes ++ rest)) r → Handles handles p (lines_from old (drop i bytes ++ rest)) r
    went_on other is h =
        let no : eqb (get_or bytes i 0) 10 ≡ false = grind (arith, other) in
        next (rw no (subst (λ xs. Handles handles p (lines_from xs (drop (i + 1) bytes ++ rest)) r) is h))
