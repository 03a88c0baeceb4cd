use Rattle.script.specs.Calls.{Sweeping}
use Rattle.bank.specs.Banks.{own_rules, bank_of}
use Rattle.script.proofs.ask.sweeps.Given as goal

abbrev pub invariant-loop : goal.invariant-loop
invariant-loop g l =
    Sweeping (own_rules g.P.Post.means g.P.Post.puts g.P.Post.pulls) (bank_of l.initial.bank) l.counter l.last (bank_of l.bank)
