use Rattle.std.proofs.Common.{◌<◌, None, refl, sym, ◌∙◌, subst, arith}
use Rattle.std.proofs.lemmas.Result.{err_from_is_err_and}
use Rattle.promise.specs.Sweeps as sweeps
use Rattle.tree.specs.Planted.{parents_of}
use Rattle.tree.specs.Trees.{lanes_of}
use Rattle.bank.proofs.Sweeping.{pull_refused, nothing_came, delivered, through_more, through_to, through_all}
use Rattle.bank.proofs.cabinets.Cabinets.read_all.Goals as goal
use Rattle.bank.proofs.cabinets.Cabinets.read_all.Goals.{in-Some+in_ok-deliver, in_default}

pub loop-l-init : goal.loop-l-init
loop-l-init g c = (refl, sweeps.begun)

pub returns-in_err-message : goal.returns-in_err-message
returns-in_err-message g c =
    let p = err_from_is_err_and c.from_residual.result c.from_residual.ensures.1 in
    let below : c.loop-l.l < lanes_of (parents_of c.args.self.now.tree) = omega (arith, c.lanes-l-end.ensures.value) in
    rw (p.1, p.2) record { swept = through_to _ _ _ _ _ _ _ below c.loop-l.invariant.1 (pull_refused _ _ _ _ _ c.in_err-message.ensures.own) }

pub returns-in_err-deliver : goal.returns-in_err-deliver
returns-in_err-deliver g c =
    let e = c.from_residual-in_err-deliver in
    let p = err_from_is_err_and e.result e.ensures.1 in
    let below : c.loop-l.l < lanes_of (parents_of c.args.self.now.tree) = omega (arith, c.lanes-l-end.ensures.value) in
    let here = subst (λ t. c.loop-l.l < lanes_of (parents_of t)) (sym c.loop-l.invariant.0) below in
    rw (p.1, p.2)
    record { swept = through_to _ _ _ _ _ _ _ below c.loop-l.invariant.1 (delivered _ _ _ _ _ _ _ _ c.in_ok-message.ensures.own c.in-Some.is (c.in_err-deliver.ensures.brings here)) }

pub loop-l-preserved : goal.loop-l-preserved
loop-l-preserved g c =
    let below : c.loop-l.l < lanes_of (parents_of c.args.self.now.tree) = omega (arith, c.lanes-l-end.ensures.value) in
    let here = subst (λ t. c.loop-l.l < lanes_of (parents_of t)) (sym c.loop-l.invariant.0) below in
    elim c.match-branch-2.branch [
      | in-Some+in_ok-deliver w ↦
          rw (w.self-is, w.post-is, w.last-is) (
            w.in_ok-deliver.ensures.same ∙ c.loop-l.invariant.0,
            through_more _ _ _ c.loop-l.last w.in_ok-deliver.field-0 _ _ _ w.or-last.ensures c.loop-l.invariant.1
                (delivered _ _ _ _ _ _ _ _ c.in_ok-message.ensures.own w.in-Some.is (w.in_ok-deliver.ensures.brings here)),
          )
      | in_default w ↦
          rw (w.self-is, w.post-is, w.last-is) (
            c.loop-l.invariant.0,
            through_more _ _ _ c.loop-l.last None _ _ _ refl c.loop-l.invariant.1 (nothing_came _ _ _ _ _ c.in_ok-message.ensures.own w.in_default.is),
          )
    ]

pub returns : goal.returns
returns g c = record { swept = through_all _ _ _ c.loop-l.last _ (omega (arith, c.lanes-l-end.ensures.value)) c.loop-l.invariant.1 }
