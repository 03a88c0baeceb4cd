-- The words of a frame.
use Rattle.std.specs.Prelude.{ℕ, cond, List, [], ◌∷◌, Some, None, codes, Option}
use Rattle.std.specs.Str.{bytes_eq}
use Rattle.cable.specs.declared.frame.Bit.{Bit}
use Rattle.cable.specs.declared.frame.Bit.TheVariants.{Zero, One}
use Rattle.cable.specs.declared.frame.Kind.{Kind}
use Rattle.cable.specs.declared.frame.Kind.TheVariants.{Carry, Answer}
use Rattle.cable.specs.declared.message.Message.TheVariants.{Request, Privilege}
use Rattle.text.specs.Words.{named}

abbrev pub kind_name : Kind → List ℕ
kind_name (Carry Request) = codes "REQUEST"
kind_name (Carry Privilege) = codes "PRIVILEGE"
kind_name Answer = codes "ANSWER"

abbrev pub kinds : List Kind
kinds = Carry Request ∷ Carry Privilege ∷ Answer ∷ []

abbrev pub kind_named : List ℕ → List Kind → Option Kind
kind_named = named kind_name

abbrev pub bit_named : List ℕ → Option Bit
bit_named field = cond (bytes_eq field (codes "0")) (Some Zero) (cond (bytes_eq field (codes "1")) (Some One) None)
