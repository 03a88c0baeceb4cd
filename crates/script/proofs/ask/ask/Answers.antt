use Rattle.std.proofs.Common.{◌≡◌, Some, rules, refl}
use Rattle.cable.specs.declared.refusal.Refusal.TheVariants.{OutOfRange}
use Rattle.script.specs.Calls as calls
use Rattle.script.specs.Grounds.{refusal}
use Rattle.script.specs.Lines.{made}
use Rattle.script.specs.Orders.{sweep}
use Rattle.script.specs.Stages.{running}
use Rattle.script.specs.declared.answer.Answer.TheVariants.{Wanted as WantedAs, Left, Swept, Bound}
use Rattle.bank.proofs.Promising.{promised}
use Rattle.bank.specs.Banks.{own_rules}
use Rattle.bank.specs.Promised.{Promised}
use Rattle.script.proofs.Asking.{bounded, its_post}
use Rattle.script.proofs.ask.ask.Given.{Over}
use Rattle.script.proofs.ask.ask.Goals as goal

-- what is promised of every bank is promised of this one
kept : (g : Over) → Promised g.P.Post.means (own_rules g.P.Post.means g.P.Post.puts g.P.Post.pulls)
kept g =
    promised g.P.Post.means g.P.Post.puts g.P.Post.pulls
    record { sound = g.met.P.Post.sound; waiting = λ p. refl; puts = g.met.P.Post.put_meant; pulls = g.met.P.Post.pull_meant }

pub returns-in-Sweep : goal.returns-in-Sweep
returns-in-Sweep g c =
    let e : refusal running (sweep c.in-Sweep.count) ≡ Some OutOfRange = search rules in
    rw c.in-Sweep.is record { asked = calls.refused e; promised = kept g }

pub returns-in-Want : goal.returns-in-Want
returns-in-Want g c =
    let e : c.map.result ≡ made (WantedAs c.in-Want.n) c.want.result = search rules in
    rw (c.in-Want.is, e) record { asked = calls.done refl (calls.wants c.want.result c.want.ensures.wants); promised = kept g }

pub returns-in-Leave : goal.returns-in-Leave
returns-in-Leave g c =
    let e : c.map-in-Leave.result ≡ made (λ _. Left c.in-Leave.n) c.leave.result = search rules in
    rw (c.in-Leave.is, e) record { asked = calls.done refl (calls.leaves c.leave.result c.leave.ensures.leaves); promised = kept g }

pub returns-in-Sweep-2 : goal.returns-in-Sweep-2
returns-in-Sweep-2 g c =
    let e : c.map-in-Sweep-2.result ≡ made (Swept c.in-Sweep-2.count) c.sweeps.result = search rules in
    rw (c.in-Sweep-2.is, e) record { asked = calls.done (search rules) (calls.sweeps c.sweeps.result c.sweeps.ensures.sweeps); promised = kept g }

pub returns-in-Bound : goal.returns-in-Bound
returns-in-Bound g c =
    let e : c.map-in-Bound.result ≡ made (Bound c.in-Bound.stay) c.bound.result = search rules in
    rw (c.in-Bound.is, e, c.bound.ensures.value) record { asked = bounded _ _ _ c.in-Bound.stay _ (its_post c.args.bank.now); promised = kept g }

pub returns-in-Plant : goal.returns-in-Plant
returns-in-Plant g c = rw c.in-Plant.is record { asked = calls.refused refl; promised = kept g }

pub returns-in-Post : goal.returns-in-Post
returns-in-Post g c = record { asked = calls.refused (search rules); promised = kept g }
