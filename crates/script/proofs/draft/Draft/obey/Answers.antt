use Rattle.std.proofs.Common.{◌≡◌, rules, refl}
use Rattle.cable.specs.declared.refusal.Refusal.TheVariants.{OutOfRange}
use Rattle.script.proofs.Preparing.{prepared}
use Rattle.script.specs.Lines.{made}
use Rattle.script.specs.Obeying as obeying
use Rattle.script.specs.declared.draft.obey.Next.TheVariants.{Line}
use Rattle.script.proofs.draft.Draft.obey.Goals as goal

pub returns-in-Misses : goal.returns-in-Misses
returns-in-Misses c =
    let e : c.map.result ≡ made (λ _. Line) c.set_misses.result = search rules in
    rw c.in-Misses.is record { prepares = prepared _ _ _ _ _ refl e c.set_misses.ensures.value c.set_misses.ensures.after }

pub returns-in-Pattern : goal.returns-in-Pattern
returns-in-Pattern c =
    let e : c.map-in-Pattern.result ≡ made (λ _. Line) c.set_pattern.result = search rules in
    rw c.in-Pattern.is record { prepares = prepared _ _ _ _ _ refl e c.set_pattern.ensures.value c.set_pattern.ensures.after }

pub returns-in-Cabinet : goal.returns-in-Cabinet
returns-in-Cabinet c =
    let e : c.map-in-Cabinet.result ≡ made (λ _. Line) c.add.result = search rules in
    rw c.in-Cabinet.is record { prepares = prepared _ _ _ _ _ refl e c.add.ensures.value c.add.ensures.after }

pub returns-in-Post : goal.returns-in-Post
returns-in-Post c = rw c.in-Post.is record { prepares = obeying.refused refl }

pub returns-in-Sweep : goal.returns-in-Sweep
returns-in-Sweep c = rw c.in-Sweep.is record { prepares = obeying.refused {why = OutOfRange} (search rules) }

pub returns-in-Bound : goal.returns-in-Bound
returns-in-Bound c = rw c.in-Bound.is record { prepares = obeying.refused {why = OutOfRange} (search rules) }

pub returns-in-Want : goal.returns-in-Want
returns-in-Want c = record { prepares = obeying.refused (search rules) }

pub returns-in-Want-2 : goal.returns-in-Want-2
returns-in-Want-2 c = record { prepares = obeying.refused (search rules) }

pub returns-in-Want-3 : goal.returns-in-Want-3
returns-in-Want-3 c = record { prepares = obeying.refused (search rules) }
