-- The bytes of one line of a capture: each field is one.
use Rattle.std.specs.Prelude.{◌≡◌, ℕ, List, [], ◌∷◌, Some, None, Ok, Err, Option, Result}
use Rattle.cable.specs.Rows.{contents}
use Rattle.cable.specs.declared.refusal.Refusal.{Refusal}
use Rattle.cable.specs.declared.refusal.Refusal.TheVariants.{Malformed}
use Rattle.capture.specs.Hexadecimal.{hex_byte}
use Rattle.capture.specs.declared.packet.Packet.{Packet}

abbrev pub held : Packet → List ℕ
held p = contents p.row

-- one byte before the others
abbrev pub before : Option ℕ → Result (List ℕ) Refusal → Result (List ℕ) Refusal
before None bs = Err Malformed
before (Some b) (Ok bs) = Ok (b ∷ bs)
before (Some b) (Err e) = Err e

abbrev pub packet : List (List ℕ) → Result (List ℕ) Refusal
packet [] = Ok []
packet (f ∷ fs) = before (hex_byte f) (packet fs)

abbrev pub Same : Result Packet Refusal → Result (List ℕ) Refusal → Type 0
Same (Ok p) bs = Ok (held p) ≡ bs
Same (Err e) bs = Err e ≡ bs
