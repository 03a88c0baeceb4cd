use Rattle.std.proofs.lemmas.Result.{err_from_is_err_and}
use Rattle.bank.proofs.Bare.{cabinets_not_bare}
use Rattle.bank.proofs.Sweeping.{sweep_stopped, nobody_in, somebody_in}
use Rattle.bank.proofs.cabinets.Cabinets.sweep.Goals as goal

pub returns-in_err-cabinet : goal.returns-in_err-cabinet
returns-in_err-cabinet g c =
    let p = err_from_is_err_and c.from_residual.result c.from_residual.ensures.1 in
    rw (p.1, p.2)
    record {
      sweeps = sweep_stopped _ _ _ _ (cabinets_not_bare c.args.self.now c.args.post.now) c.grow.ensures.after _ c.in_err-cabinet.ensures.swept;
    }

pub returns-in_default : goal.returns-in_default
returns-in_default g c =
    record {
      sweeps =
          nobody_in _ _ _ _ (cabinets_not_bare c.args.self.now c.args.post.now) c.grow.ensures.after _ c.in_ok-cabinet.ensures.swept
          c.in_default.is;
    }

pub returns : goal.returns
returns g c =
    record {
      sweeps =
          somebody_in _ _ _ _ (cabinets_not_bare c.args.self.now c.args.post.now) c.grow.ensures.after _ c.in-Some.cabinet _
          c.in_ok-cabinet.ensures.swept c.in-Some.is c.at-wait.ensures.value;
    }
