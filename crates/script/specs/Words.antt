-- The words of a script.
use Rattle.std.specs.Prelude.{ℕ, List, [], ◌∷◌, codes, Option}
use Rattle.text.specs.Words.{named}
use Rattle.script.specs.declared.command.PostKind.{PostKind}
use Rattle.script.specs.declared.command.PostKind.TheVariants.{Straight, Clean, Retry}
use Rattle.script.specs.declared.word.Word.{Word}
use Rattle.script.specs.declared.word.Word.TheVariants.{Post, Misses, Pattern, Cabinet, Plant, Want, Leave, Sweep, Bound}

abbrev pub word_name : Word → List ℕ
word_name Post = codes "post"
word_name Misses = codes "misses"
word_name Pattern = codes "pattern"
word_name Cabinet = codes "cabinet"
word_name Plant = codes "plant"
word_name Want = codes "want"
word_name Leave = codes "leave"
word_name Sweep = codes "sweep"
word_name Bound = codes "bound"

abbrev pub words : List Word
words = Post ∷ Misses ∷ Pattern ∷ Cabinet ∷ Plant ∷ Want ∷ Leave ∷ Sweep ∷ Bound ∷ []

abbrev pub word_named : List ℕ → List Word → Option Word
word_named = named word_name

abbrev pub kind_name : PostKind → List ℕ
kind_name Straight = codes "straight"
kind_name Clean = codes "clean"
kind_name Retry = codes "retry"

abbrev pub kinds : List PostKind
kinds = Straight ∷ Clean ∷ Retry ∷ []

abbrev pub kind_named : List ℕ → List PostKind → Option PostKind
kind_named = named kind_name
