-- No more stand in a row than it has places.
use Rattle.std.proofs.Common.{ℕ, ◌≤◌, length, arith}
use Rattle.std.proofs.lemmas.List.{length-take}
use Rattle.cable.specs.Rows.{contents}
use Rattle.cable.specs.declared.row.Row.{Row}

pub contents_few : {T : Type 0} {N : ℕ} (r : Row T N) → length (contents r) ≤ N
contents_few r = omega (arith, length-take r.row.taken r.places, r.whole)
