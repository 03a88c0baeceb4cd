-- A line as it comes in: its first 81 bytes, of which 80 may be.
use Rattle.std.specs.Prelude.{ℕ, List}
use Rattle.cable.specs.Rows.{contents, joined}
use Rattle.text.specs.declared.line.LineBuffer.{LineBuffer}

abbrev pub line_in : LineBuffer → List ℕ
line_in l = contents l.row

abbrev pub kept : List ℕ → ℕ → List ℕ
kept line b = joined line 81 b
