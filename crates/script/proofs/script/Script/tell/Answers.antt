use Rattle.std.proofs.Common.{sym}
use Rattle.std.proofs.lemmas.Result.{err_from_is_err_and}
use Rattle.script.proofs.Outside.{unread_outside}
use Rattle.script.proofs.script.Script.tell.Goals as goal

pub returns-in_err-parse-clause-outside : goal.returns-in_err-parse-clause-outside
returns-in_err-parse-clause-outside c =
    let p = err_from_is_err_and c.from_residual.result c.from_residual.ensures.1 in
    rw (p.1, p.2) (λ k. unread_outside c.args.line.now _ (sym c.in_err-parse.ensures.value))
