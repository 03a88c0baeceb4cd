-- Bytes in hexadecimal.
use Rattle.std.specs.Prelude.{ℕ, ◌/◌, ◌%◌, true, List, [], ◌∷◌, Some, None, Ok, Err, Option, slice_index}
use Rattle.std.specs.Fmt.{digit_glyph}
use Rattle.hex.specs.Hex.{decode_sized}

-- the byte of a field of two digits, of either case; any other field has none
abbrev pub hex_byte : List ℕ → Option ℕ
hex_byte field = elim (decode_sized field 1) [ Ok bytes ↦ Some (slice_index bytes 0) | Err why ↦ None ]

-- a byte as it is shown, in the upper case
abbrev pub hex_of : ℕ → List ℕ
hex_of b = digit_glyph true (b / 16) ∷ digit_glyph true (b % 16) ∷ []
