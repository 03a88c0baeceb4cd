-- Frames worked out by hand: three bytes, and what they read as. What is a frame is also written as these bytes.
use Rattle.std.specs.Prelude.{◌≡◌, ℕ, List, [], ◌∷◌, Ok, Err, Result}
use Rattle.std.specs.List.{AllByRecursion}
use Rattle.cable.specs.Frames.{read}
use Rattle.cable.specs.Laws.{WhatReadsIsWhatIsWritten}
use Rattle.cable.specs.declared.frame.Bit.{Bit}
use Rattle.cable.specs.declared.frame.Bit.TheVariants.{Zero, One}
use Rattle.cable.specs.declared.frame.Frame.{Frame}
use Rattle.cable.specs.declared.frame.Kind.{Kind}
use Rattle.cable.specs.declared.frame.Kind.TheVariants.{Carry, Answer}
use Rattle.cable.specs.declared.message.Message.TheVariants.{Request, Privilege}
use Rattle.cable.specs.declared.refusal.Refusal.{Refusal}
use Rattle.cable.specs.declared.refusal.Refusal.TheVariants.{UnknownHead, LaneByteTooLarge, WrongCheck}

abbrev pub frame : Kind → Bit → ℕ → Frame
frame k b l = record { kind = k; bit = b; lane = record { 0 = l } }

abbrev pub worked_frames : List (List ℕ × Result Frame Refusal)
worked_frames =
    (0x10 ∷ 0x05 ∷ 0xEA ∷ [], Ok (frame (Carry Request) Zero 5))
    ∷ (0x21 ∷ 0x1D ∷ 0xC1 ∷ [], Ok (frame (Carry Privilege) One 29))
    ∷ (0x30 ∷ 0x00 ∷ 0xCF ∷ [], Ok (frame Answer Zero 0))
    ∷ (0x10 ∷ 0x05 ∷ 0xEB ∷ [], Err WrongCheck)
    ∷ (0x10 ∷ 0x1E ∷ 0xD1 ∷ [], Err LaneByteTooLarge)
    ∷ (0x12 ∷ 0x00 ∷ 0xED ∷ [], Err UnknownHead)
    ∷ []

abbrev pub TheWorkedFramesHold : Type 0
TheWorkedFramesHold = AllByRecursion (λ row. (read row.0 ≡ row.1) × WhatReadsIsWhatIsWritten row.0 row.1) worked_frames
