use Rattle.std.proofs.Common.{◌≡◌}
use Rattle.promise.specs.Sweeps.{Through}
use Rattle.bank.specs.Banks.{own_rules, planted_on}
use Rattle.bank.specs.Parts.{entrant}
use Rattle.bank.proofs.cabinets.Cabinets.read_all.Given as goal

abbrev pub invariant-loop-l : goal.invariant-loop-l
invariant-loop-l g l =
    (l.self.tree ≡ l.initial.self.tree)
    × Through (own_rules g.P.Post.means g.P.Post.puts g.P.Post.pulls) (planted_on l.initial.self l.initial.post) l.l (entrant l.last)
    (planted_on l.self l.post)
