use Rattle.std.proofs.Common.{ℕ, List, length}
use Rattle.std.specs.List.{FoldsTo}
use Rattle.alternating.specs.Rounds.{Taken}
use Rattle.retry.proofs.drain.drain.Given as goal

abbrev pub invariant-loop-frame : goal.invariant-loop-frame
invariant-loop-frame g l =
    (frames : List (List ℕ))
    × (Taken g.W.Wiring.takes l.wire.number.0 l.initial.wiring frames l.wiring
    × FoldsTo (goal.F-post g l.make) l.initial.made frames l.made)

abbrev pub decreases-loop-frame : goal.decreases-loop-frame
decreases-loop-frame g l = length ((g.W.Wiring.means l.wiring).flying l.wire.number.0)
