-- Lines that begin, each with its letters.
use Rattle.std.proofs.Common.{◌≡◌, ℕ, zero, suc, ◌<◌, List, [], ◌∷◌, length, get_or, map, refl, arith}
use Rattle.wiring.specs.declared.letter.Letter.{Letter}
use Rattle.wiring.specs.Line.{line_of, new_line}
use Rattle.wiring.specs.Patterned.{begun_at}
use Rattle.wiring.specs.declared.patterned.line.Line.{Line}

pub all_begun : (ls : List (List Letter)) (xs : List Line) → length ls ≡ length xs
    → ((k : ℕ) (d : Line) → k < length xs → line_of (get_or xs k d) ≡ begun_at ls k) → (k : ℕ) → get_or (map line_of xs) k new_line ≡ begun_at ls k
all_begun [] [] e h k = refl
all_begun [] (x ∷ xs) e h k = absurd (omega (arith, e))
all_begun (l ∷ ls) [] e h k = absurd (omega (arith, e))
all_begun (l ∷ ls) (x ∷ xs) e h zero = h 0 x (omega arith)
all_begun (l ∷ ls) (x ∷ xs) e h (suc k) = all_begun ls xs (omega (arith, e)) (λ k d b. h (suc k) d (omega arith)) k
