use Rattle.std.proofs.Common.{refl, sym}
use Rattle.std.proofs.lemmas.Result.{err_from_is_err_and}
use Rattle.bank.proofs.Bare.{planted_not_bare, none_bare}
use Rattle.bank.proofs.Plants.{already_planted, no_tree}
use Rattle.bank.proofs.bank.Bank.plant.Goals as goal

pub returns-then-is_some : goal.returns-then-is_some
returns-then-is_some g c =
    record { plants = already_planted _ _ _ _ (planted_not_bare c.args.self.now.cabinets c.args.self.now.post (sym c.if-is_some.ensures)) refl }

pub returns-in_err-tree : goal.returns-in_err-tree
returns-in_err-tree g c =
    let p = err_from_is_err_and c.from_residual.result c.from_residual.ensures.1 in
    rw (p.1, p.2)
    record { plants = no_tree _ _ _ _ (none_bare c.args.self.now.cabinets c.args.self.now.post (sym c.if-is_some.ensures)) c.in_err-tree.ensures.value }
