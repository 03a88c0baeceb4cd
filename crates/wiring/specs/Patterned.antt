-- The patterned wiring: of each wire it keeps a line, and of all wires the misses.
use Rattle.std.specs.Prelude.{◌≡◌, ℕ, ◌<◌, ◌≤◌, List, [], ◌∷◌, map, Ok, Err, Option, Result, MatchResult, slice_index_or}
use Rattle.cable.specs.Numbers.{wires}
use Rattle.cable.specs.declared.refusal.Refusal.{Refusal}
use Rattle.cable.specs.declared.refusal.Refusal.TheVariants.{OutOfRange, NoSuchWire}
use Rattle.wiring.specs.Patterns.{spare_of}
use Rattle.wiring.specs.Wirings.{WiringModel}
use Rattle.wiring.specs.declared.letter.Letter.{Letter}
use Rattle.wiring.specs.declared.letter.Letter.TheVariants.{Keep}
use Rattle.wiring.specs.Line.{LineModel, line_of, new_line, patterned_depth, sent_on, taken_on, given_on}
use Rattle.wiring.specs.Lines.{OnlyWire, SendsBy, TakesBy, means_by}
use Rattle.wiring.specs.declared.patterned.Patterned.{Patterned}

abbrev pub misses_of : Patterned → ℕ
misses_of p = p.misses.most

abbrev pub lines_of : Patterned → ℕ → LineModel
lines_of p k = slice_index_or (map line_of p.lines) k new_line

abbrev pub patterned_means : Patterned → WiringModel
patterned_means p = means_by (λ l. l.flying) patterned_depth (misses_of p) (λ l. spare_of (misses_of p) l.pattern) (lines_of p)

-- nothing was sent yet on the wire k, and it has its letters, or k alone
abbrev pub begun_at : List (List Letter) → ℕ → LineModel
begun_at patterns k = given_on (slice_index_or patterns k (Keep ∷ [])) new_line

-- new, with these misses, and each wire with its letters
pub record BegunWith (m : ℕ) (patterns : List (List Letter)) (p : Patterned) : Type 0 where
  pub misses : misses_of p ≡ m
  pub lines : (k : ℕ) → lines_of p k ≡ begun_at patterns k

-- with the letter k alone on each wire, unless the misses are too many
abbrev pub Begins : ℕ → Result Patterned Refusal → Type 0
Begins m r = MatchResult r (λ p. (m ≤ 15) × BegunWith m [] p) (λ why. (15 < m) × (why ≡ OutOfRange))

pub record PatternSet (w : Patterned) (wire : ℕ) (letters : List Letter) (r : Result (Unit {0}) Refusal) (v : Patterned) : Type 0 where
  pub misses : misses_of v ≡ misses_of w
  pub no_wire : wires ≤ wire → (r ≡ Err NoSuchWire) × (lines_of v wire ≡ lines_of w wire)
  pub done : wire < wires → (r ≡ Ok tt) × (lines_of v wire ≡ given_on letters (lines_of w wire))
  pub others : OnlyWire wire (lines_of w) (lines_of v)

pub record PatternedSends (w : Patterned) (wire : ℕ) (f : List ℕ) (r : Result (Unit {0}) Refusal) (v : Patterned) : Type 0 where
  pub misses : misses_of v ≡ misses_of w
  pub lines : SendsBy (λ l. l.flying) patterned_depth (sent_on (misses_of w) f) (lines_of w) wire r (lines_of v)

pub record PatternedTakes (w : Patterned) (wire : ℕ) (r : Result (Option (List ℕ)) Refusal) (v : Patterned) : Type 0 where
  pub misses : misses_of v ≡ misses_of w
  pub lines : TakesBy (λ l. l.flying) taken_on (lines_of w) wire r (lines_of v)
