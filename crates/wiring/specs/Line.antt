-- One wire of a patterned wiring: the frames that fly on it, and its pattern at work.
use Rattle.std.specs.Prelude.{ℕ, ◌-◌, cond, List, [], ◌∷◌, ◌++◌, length, nat_lt}
use Rattle.cable.specs.Rows.{rest}
use Rattle.wiring.specs.Wires.{flying_on}
use Rattle.wiring.specs.Patterns.{PatternModel, pattern_of, given_letters, fate_of, gone_on}
use Rattle.wiring.specs.declared.letter.Letter.{Letter}
use Rattle.wiring.specs.declared.letter.Letter.TheVariants.{Keep}
use Rattle.wiring.specs.declared.pattern.Fate.{Fate}
use Rattle.wiring.specs.declared.pattern.Fate.TheVariants.{Lost, Kept, Doubled}
use Rattle.wiring.specs.declared.patterned.line.Line.{Line}

pub record LineModel : Type 0 where
  pub flying : List (List ℕ)
  pub pattern : PatternModel

abbrev pub line_of : Line → LineModel
line_of l = record { flying = flying_on l.flight; pattern = pattern_of l.pattern }

-- nothing was sent yet, and every frame will be kept
abbrev pub new_line : LineModel
new_line = record { flying = []; pattern = record { letters = Keep ∷ []; turn = 0; losses = 0 } }

abbrev pub patterned_depth : ℕ
patterned_depth = 8

-- as many copies as the frame's fate says join the end
abbrev pub copied : Fate → List ℕ → List (List ℕ) → List (List ℕ)
copied Lost f fs = fs
copied Kept f fs = fs ++ f ∷ []
copied Doubled f fs = (fs ++ f ∷ []) ++ f ∷ []

abbrev pub carried : Fate → List ℕ → LineModel → LineModel
carried fate f l = record { flying = copied fate f l.flying; pattern = gone_on fate l.pattern }

-- the pattern decides, by its next letter, the losses in a row and the places that are free
unfoldable pub sent_on : ℕ → List ℕ → LineModel → LineModel
sent_on misses f l = carried (fate_of l.pattern misses (patterned_depth - length l.flying)) f l

-- a full line stays as it is
abbrev pub after_send : ℕ → List ℕ → LineModel → LineModel
after_send misses f l = cond (nat_lt (length l.flying) patterned_depth) (sent_on misses f l) l

abbrev pub taken_on : LineModel → LineModel
taken_on l = record { flying = rest l.flying; pattern = l.pattern }

abbrev pub given_on : List Letter → LineModel → LineModel
given_on ls l = record { flying = l.flying; pattern = given_letters ls l.pattern }
