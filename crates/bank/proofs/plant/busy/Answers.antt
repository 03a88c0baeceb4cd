use Rattle.std.proofs.Common.{Ok, sym, ap, arith}
use Rattle.bank.proofs.Busy.{busy_at, idle_more, idle_all}
use Rattle.bank.proofs.plant.busy.Goals as goal

pub returns-then-waiting-gt0 : goal.returns-then-waiting-gt0
returns-then-waiting-gt0 g c =
    record {
      value =
          ap Ok (sym (busy_at (g.P.Post.means c.args.post.now) c.loop-l.l c.in_ok-waiting.waiting c.loop-l-test.true
          c.in_ok-waiting.ensures.value c.if-waiting-gt0.true));
    }

pub loop-l-preserved : goal.loop-l-preserved
loop-l-preserved g c =
    idle_more (g.P.Post.means c.args.post.now) c.loop-l.l c.in_ok-waiting.waiting c.loop-l-test.true
    c.in_ok-waiting.ensures.value c.if-waiting-gt0.false c.loop-l.invariant

pub returns : goal.returns
returns g c = record { value = ap Ok (sym (idle_all (g.P.Post.means c.args.post.now) c.loop-l.l (omega arith) c.loop-l.invariant)) }
