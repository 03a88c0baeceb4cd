use Rattle.std.proofs.Common.{◌≡◌, false}
use Rattle.promise.specs.Calls.{busy_below}
use Rattle.bank.proofs.plant.busy.Given as goal

abbrev pub invariant-loop-l : goal.invariant-loop-l
invariant-loop-l g l = busy_below (g.P.Post.means l.post).waiting l.l ≡ false
