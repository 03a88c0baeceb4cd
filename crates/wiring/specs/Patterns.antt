-- One wire's pattern at work: its letters, the place of the next one, and how many frames in a row were lost.
use Rattle.std.specs.Prelude.{ℕ, ◌+◌, ◌-◌, ◌%◌, cond, List, length, nat_le, nat_lt}
use Rattle.wiring.specs.Held.{letters_of}
use Rattle.wiring.specs.Letters.{letter_at}
use Rattle.wiring.specs.declared.letter.Letter.{Letter}
use Rattle.wiring.specs.declared.letter.Letter.TheVariants.{Keep, Double, Lose}
use Rattle.wiring.specs.declared.pattern.Fate.{Fate}
use Rattle.wiring.specs.declared.pattern.Fate.TheVariants.{Lost, Kept, Doubled}
use Rattle.wiring.specs.declared.pattern.Pattern.{Pattern}

pub record PatternModel : Type 0 where
  pub letters : List Letter
  pub turn : ℕ
  pub losses : ℕ

abbrev pub pattern_of : Pattern → PatternModel
pattern_of p = record { letters = letters_of p.letters; turn = p.turn; losses = p.losses }

-- other letters begin with their first; the losses in a row are the wire's, and stay
abbrev pub given_letters : List Letter → PatternModel → PatternModel
given_letters ls p = record { letters = ls; turn = 0; losses = p.losses }

-- what a letter does: 'd' is a 'k' unless two frames fit, 'l' is a 'k' once as many were lost in a row as may be
abbrev pub fate_by : Letter → ℕ → ℕ → ℕ → Fate
fate_by Keep losses misses free = Kept
fate_by Double losses misses free = cond (nat_le 2 free) Doubled Kept
fate_by Lose losses misses free = cond (nat_lt losses misses) Lost Kept

abbrev pub fate_of : PatternModel → ℕ → ℕ → Fate
fate_of p misses free = fate_by (letter_at p.letters p.turn) p.losses misses free

-- losses in a row: a kept frame ends the run
abbrev pub run_on : Fate → ℕ → ℕ
run_on Lost n = n + 1
run_on Kept n = 0
run_on Doubled n = 0

-- the letter is used up, whatever it counted as
abbrev pub gone_on : Fate → PatternModel → PatternModel
gone_on f p = record { letters = p.letters; turn = (p.turn + 1) % length p.letters; losses = run_on f p.losses }

-- how many more frames in a row may be lost
abbrev pub spare_of : ℕ → PatternModel → ℕ
spare_of misses p = misses - p.losses
