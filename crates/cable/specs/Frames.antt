-- A frame is three bytes: head, lane, check. Writing is defined first; reading is what undoes it.
use Rattle.std.specs.Prelude.{ℕ, ◌+◌, ◌-◌, ◌%◌, cond, List, [], ◌∷◌, Ok, Err, Result, ◌==◌, nat_lt}
use Rattle.cable.specs.Numbers.{lanes}
use Rattle.cable.specs.declared.frame.Bit.{Bit}
use Rattle.cable.specs.declared.frame.Bit.TheVariants.{Zero, One}
use Rattle.cable.specs.declared.frame.Frame.{Frame}
use Rattle.cable.specs.declared.frame.Kind.{Kind}
use Rattle.cable.specs.declared.frame.Kind.TheVariants.{Carry, Answer}
use Rattle.cable.specs.declared.message.Message.TheVariants.{Request, Privilege}
use Rattle.cable.specs.declared.refusal.Refusal.{Refusal}
use Rattle.cable.specs.declared.refusal.Refusal.TheVariants.{NoSuchLane, WrongLength, UnknownHead, LaneByteTooLarge, WrongCheck}

abbrev pub bit_of : Bit → ℕ
bit_of Zero = 0
bit_of One = 1

abbrev pub flip : Bit → Bit
flip Zero = One
flip One = Zero

-- the kind in the upper half, the bit in the lowest place
abbrev pub head_of : Kind → Bit → ℕ
head_of (Carry Request) b = 0x10 + bit_of b
head_of (Carry Privilege) b = 0x20 + bit_of b
head_of Answer b = 0x30 + bit_of b

abbrev pub check_of : ℕ → ℕ → ℕ
check_of head lane = 255 - (head + lane) % 256

abbrev pub bytes_of : Frame → List ℕ
bytes_of f = head_of f.kind f.bit ∷ f.lane.0 ∷ check_of (head_of f.kind f.bit) f.lane.0 ∷ []

abbrev pub written : Frame → Result (List ℕ) Refusal
written f = cond (nat_lt f.lane.0 lanes) (Ok (bytes_of f)) (Err NoSuchLane)

-- the six heads
abbrev pub heads : List (Kind × Bit)
heads = (Carry Request, Zero) ∷ (Carry Request, One) ∷ (Carry Privilege, Zero) ∷ (Carry Privilege, One) ∷ (Answer, Zero) ∷ (Answer, One) ∷ []

-- the first of some heads that is written as this byte
abbrev pub named : ℕ → List (Kind × Bit) → Result (Kind × Bit) Refusal
named h [] = Err UnknownHead
named h (k ∷ ks) = cond (h == head_of k.0 k.1) (Ok k) (named h ks)

abbrev pub sound : Kind × Bit → ℕ → ℕ → ℕ → Result Frame Refusal
sound k h l c =
    cond (nat_lt l lanes)
    (cond (c == check_of h l) (Ok (record { kind = k.0; bit = k.1; lane = record { 0 = l } })) (Err WrongCheck))
    (Err LaneByteTooLarge)

-- the frame of a head, a lane byte and a check byte
abbrev pub frame_of : ℕ → ℕ → ℕ → Result Frame Refusal
frame_of h l c = elim (named h heads) [ Err e ↦ Err e | Ok k ↦ sound k h l c ]

abbrev pub read : List ℕ → Result Frame Refusal
read [] = Err WrongLength
read (h ∷ []) = Err WrongLength
read (h ∷ l ∷ []) = Err WrongLength
read (h ∷ l ∷ c ∷ []) = frame_of h l c
read (h ∷ l ∷ c ∷ x ∷ xs) = Err WrongLength
