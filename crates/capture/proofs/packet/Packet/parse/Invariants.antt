use Rattle.std.proofs.Common.{length}
use Rattle.cable.specs.Rows.{contents}
use Rattle.text.specs.Fields.{fields}
use Rattle.capture.proofs.Packing.{Packed}
use Rattle.capture.proofs.packet.Packet.parse.Given as goal

abbrev pub invariant-loop-field : goal.invariant-loop-field
invariant-loop-field l =
    (goal.iterator-loop-field).can_next l.field-iterator ×
    (goal.iterator-loop-field).is_finite l.field-iterator ×
    Packed (fields 32 l.line) (length l.yielded) (contents l.row)
