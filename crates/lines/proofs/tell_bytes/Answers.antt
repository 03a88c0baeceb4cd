use Rattle.lines.proofs.Handling.{ended, went_on}
use Rattle.lines.proofs.tell_bytes.Goals as goal
use Rattle.lines.proofs.tell_bytes.Goals.{then-b-eq10+in_ok-handle, else-b-eq10}

pub loop-b-preserved : goal.loop-b-preserved
loop-b-preserved g c =
    elim c.if-b-eq10.branch [
      | then-b-eq10+in_ok-handle w ↦
          rw (w.line-is, w.listener-is)
          (λ rest end h. c.loop-b.invariant rest end (ended _ _ end _ _ _ _ rest c.loop-b-test.true _ _ w.if-b-eq10.true w.clear.ensures.after w.line.ensures.value w.in_ok-handle.ensures.handled h))
      | else-b-eq10 w ↦
          rw (w.line-is, w.listener-is)
          (λ rest end h. c.loop-b.invariant rest end (went_on _ _ end _ _ _ _ rest c.loop-b-test.true w.if-b-eq10.false w.push.ensures.after h))
    ]
