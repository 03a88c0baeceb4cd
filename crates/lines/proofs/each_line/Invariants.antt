use Rattle.std.proofs.Common.{ℕ, List, ◌++◌}
use Rattle.std.specs.Io.KnownBytes.{Consumes}
use Rattle.text.specs.Lines.{line_in}
use Rattle.lines.specs.Inputs.{Handles, lines_of, lines_from}
use Rattle.lines.proofs.each_line.Given as goal

abbrev pub invariant-loop : goal.invariant-loop
invariant-loop g l =
    (bytes : List ℕ) × (Consumes (g.R.Read.remaining l.initial.input) (g.R.Read.remaining l.input) bytes
    × ((left : List ℕ) (end : _) → Handles g.L.Listener.handles l.listener (lines_from (line_in l.line) left) end → Handles g.L.Listener.handles l.initial.listener (lines_of (bytes ++ left)) end))
