use Rattle.std.proofs.Common.{◌≡◌, map, length, take}
use Rattle.cabinet.specs.Tables.{view_of}
use Rattle.promise.specs.Sweeps.{counted}
use Rattle.bank.proofs.waits.lengthen.Given as goal

abbrev pub invariant-loop-k : goal.invariant-loop-k
invariant-loop-k l =
    (length l.counts ≡ 16) × (l.counts ≡ counted (take l.k (map view_of l.cabinets)) l.initial.counts)
