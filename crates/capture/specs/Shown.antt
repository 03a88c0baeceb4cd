-- What is printed of a line.
use Rattle.std.specs.Prelude.{ℕ, List, [], ◌∷◌, ◌++◌, Ok, Err, codes, decimal, Result, slice_index}
use Rattle.cable.specs.Frames.{bit_of}
use Rattle.cable.specs.Refusals.{number_of}
use Rattle.cable.specs.declared.refusal.Refusal.{Refusal}
use Rattle.capture.specs.Hexadecimal.{hex_of}
use Rattle.capture.specs.Vocabulary.{kind_name}
use Rattle.capture.specs.declared.translation.Translation.{Translation}
use Rattle.capture.specs.declared.translation.Translation.TheVariants.{Read, Written}

-- texts with a space between each and the next
abbrev pub spaced : List (List ℕ) → List ℕ
spaced [] = []
spaced (t ∷ []) = t
spaced (t ∷ u ∷ ts) = t ++ (codes " " ++ spaced (u ∷ ts))

abbrev pub shown_as : Result Translation Refusal → List ℕ
shown_as (Ok (Read f)) = spaced (kind_name f.kind ∷ decimal (bit_of f.bit) ∷ decimal f.lane.0 ∷ [])
shown_as (Ok (Written bs)) = spaced (hex_of (slice_index bs 0) ∷ hex_of (slice_index bs 1) ∷ hex_of (slice_index bs 2) ∷ [])
shown_as (Err e) = spaced (codes "no" ∷ decimal (number_of e) ∷ [])
