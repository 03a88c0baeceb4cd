use Rattle.std.proofs.Common.{rules, refl}
use Rattle.std.proofs.lemmas.Result.{err_from_is_err_and}
use Rattle.script.specs.Obeying as obeying
use Rattle.script.proofs.script.Script.plant.Goals as goal

pub returns-in-Unnamed : goal.returns-in-Unnamed
returns-in-Unnamed c = rw c.in-Unnamed.is record { obeys = obeying.refused refl }

pub returns-in_err-self-in-Drafted : goal.returns-in_err-self-in-Drafted
returns-in_err-self-in-Drafted c =
    let p = err_from_is_err_and c.from_residual.result c.from_residual.ensures.1 in
    rw (p.1, p.2, c.in-Drafted.is) record { obeys = obeying.refused c.in_err-self-in-Drafted.ensures.cases }

pub returns-in_ok-self-in-Drafted : goal.returns-in_ok-self-in-Drafted
returns-in_ok-self-in-Drafted c =
    let t = c.in_ok-self-in-Drafted.ensures.cases in
    rw (c.in-Drafted.is, c.len-cabinets.ensures.value) record { obeys = obeying.done t.0 (obeying.plants t.1) }

pub returns-in-Straight : goal.returns-in-Straight
returns-in-Straight c = record { obeys = obeying.refused (search rules) }

pub returns-in-Straight-2 : goal.returns-in-Straight-2
returns-in-Straight-2 c = record { obeys = obeying.refused (search rules) }

pub returns-in-Straight-3 : goal.returns-in-Straight-3
returns-in-Straight-3 c = record { obeys = obeying.refused (search rules) }
