use Rattle.std.proofs.Common.{◌≡◌, None, refl, rules}
use Rattle.std.proofs.lemmas.Result.{err_from_is_err_and}
use Rattle.cable.specs.declared.refusal.Refusal.TheVariants.{Bare}
use Rattle.promise.specs.Calls as calls
use Rattle.bank.proofs.bank.Bank.leave.Goals as goal

pub returns-in_err-cabinets : goal.returns-in_err-cabinets
returns-in_err-cabinets g c =
    let p = err_from_is_err_and c.from_residual.result c.from_residual.ensures.1 in
    let none : c.args.self.now.cabinets ≡ None = search rules in
    let why : c.in_err-cabinets.field-0.0 ≡ Bare = search rules in
    rw (p.1, p.2, none, why) record { leaves = calls.refused refl }
