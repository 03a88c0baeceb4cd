use Rattle.std.proofs.Common.{◌≡◌, ◌^◌, ◌<◌, drop}
use Rattle.text.specs.Numerals.{numeral, read_on}
use Rattle.text.proofs.numeral.number.Given as goal

abbrev pub invariant-loop-c : goal.invariant-loop-c
invariant-loop-c l = (l.n < 10 ^ l.c-index) × (read_on l.n (drop l.c-index l.field) ≡ numeral l.field)
