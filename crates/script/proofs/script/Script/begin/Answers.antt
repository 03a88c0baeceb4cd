use Rattle.std.proofs.Common.{rules, refl}
use Rattle.script.specs.Obeying as obeying
use Rattle.script.proofs.script.Script.begin.Goals as goal

pub returns-in_default : goal.returns-in_default
returns-in_default c = record { begins = λ e. obeying.refused (rw e (search rules)) }

pub returns : goal.returns
returns c = record { begins = λ e. rw (e, c.in-Post.is, c.new.ensures.value) (obeying.done refl obeying.names) }
