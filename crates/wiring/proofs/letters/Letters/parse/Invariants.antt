use Rattle.std.proofs.Common.{◌≡◌, [], length, drop}
use Rattle.cable.specs.Rows.{contents}
use Rattle.wiring.specs.Letters.{read_on}
use Rattle.wiring.proofs.letters.Letters.parse.Given as goal

abbrev pub invariant-loop-b : goal.invariant-loop-b
invariant-loop-b l =
    (length (contents l.row) ≡ l.b-index) × (read_on (contents l.row) (drop l.b-index l.text) ≡ read_on [] l.text)
