use Rattle.std.proofs.Common.{ℕ, List, ◌++◌, drop}
use Rattle.text.specs.Lines.{line_in}
use Rattle.lines.specs.Inputs.{Handles, lines_from}
use Rattle.lines.proofs.tell_bytes.Given as goal

abbrev pub invariant-loop-b : goal.invariant-loop-b
invariant-loop-b g l =
    (rest : List ℕ) (end : _) → Handles g.L.Listener.handles l.listener (lines_from (line_in l.line) (drop l.b-index l.bytes ++ rest)) end
    → Handles g.L.Listener.handles l.initial.listener (lines_from (line_in l.initial.line) (l.bytes ++ rest)) end
