-- What a line of a capture says. Its fields are parted by one space; the grounds for refusing are checked in the order of their numbers.
use Rattle.std.specs.Prelude.{ℕ, cond, List, [], ◌∷◌, length, Some, None, Ok, Err, Option, Result, nat_lt}
use Rattle.cable.specs.Frames as Frames
use Rattle.cable.specs.declared.frame.Bit.{Bit}
use Rattle.cable.specs.declared.frame.Kind.{Kind}
use Rattle.cable.specs.declared.refusal.Refusal.{Refusal}
use Rattle.cable.specs.declared.refusal.Refusal.TheVariants.{LineTooLong, UnknownWord, WrongFieldCount, Malformed}
use Rattle.text.specs.Fields.{fields}
use Rattle.text.specs.Numerals.{numeral}
use Rattle.capture.specs.Hexadecimal.{hex_byte}
use Rattle.capture.specs.Packets.{packet}
use Rattle.capture.specs.Vocabulary.{kind_named, kinds, bit_named}
use Rattle.capture.specs.declared.translation.Translation.{Translation}
use Rattle.capture.specs.declared.translation.Translation.TheVariants.{Read, Written}

abbrev pub framed : Kind → Option Bit → Option ℕ → Result Translation Refusal
framed k None l = Err Malformed
framed k (Some b) None = Err Malformed
framed k (Some b) (Some l) =
    elim (Frames.written (record { kind = k; bit = b; lane = record { 0 = l } })) [ Ok bytes ↦ Ok (Written bytes) | Err e ↦ Err e ]

-- the fields behind the kind: the bit and the lane
abbrev pub from_words : Kind → List (List ℕ) → Result Translation Refusal
from_words k [] = Err WrongFieldCount
from_words k (b ∷ []) = Err WrongFieldCount
from_words k (b ∷ l ∷ []) = framed k (bit_named b) (numeral l)
from_words k (b ∷ l ∷ x ∷ xs) = Err WrongFieldCount

abbrev pub from_bytes : List (List ℕ) → Result Translation Refusal
from_bytes fs = elim (packet fs) [ Err e ↦ Err e | Ok bytes ↦ elim (Frames.read bytes) [ Ok f ↦ Ok (Read f) | Err e ↦ Err e ] ]

abbrev pub said : List (List ℕ) → Result Translation Refusal
said [] = Err UnknownWord
said (f ∷ fs) =
    elim (kind_named f kinds) [
      | Some k ↦ from_words k fs
      | None ↦ elim (hex_byte f) [ None ↦ Err UnknownWord | Some b ↦ from_bytes (f ∷ fs) ]
    ]

abbrev pub translated : List ℕ → Result Translation Refusal
translated line = cond (nat_lt 80 (length line)) (Err LineTooLong) (said (fields 32 line))
