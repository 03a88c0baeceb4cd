-- The letters that a wire has.
use Rattle.std.specs.Prelude.{List, Some, None, Option}
use Rattle.cable.specs.Rows.{contents}
use Rattle.wiring.specs.declared.letter.Letter.{Letter}
use Rattle.wiring.specs.declared.letters.Letters.{Letters}

abbrev pub letters_of : Letters → List Letter
letters_of ls = contents ls.row

abbrev pub letters_in : Option Letters → Option (List Letter)
letters_in None = None
letters_in (Some ls) = Some (letters_of ls)
