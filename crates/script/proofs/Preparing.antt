-- A line that only tells of the site is noted, or refused.
use Rattle.std.proofs.Common.{◌≡◌, true, Ok, Err, Result}
use Rattle.cable.specs.declared.refusal.Refusal.{Refusal}
use Rattle.script.proofs.Refusing.{was_refused, not_refused}
use Rattle.script.specs.Grounds.{refusal, unless_refused}
use Rattle.script.specs.Lines.{made}
use Rattle.script.specs.Obeying as obeying
use Rattle.script.specs.Obeying.{tells_of_the_site, noted_if}
use Rattle.script.specs.Orders.{Order}
use Rattle.script.specs.Preparing.{Prepares}
use Rattle.script.specs.Stages.{Draft, drafting}
use Rattle.script.specs.declared.draft.obey.Next.{Next}
use Rattle.script.specs.declared.draft.obey.Next.TheVariants.{Line}

pub prepared : (d e : Draft) (o : Order) (r : Result (Unit {0}) Refusal) (n : Result Next Refusal) → tells_of_the_site o ≡ true → n ≡ made (λ _. Line) r
    → r ≡ unless_refused (refusal (drafting d) o) → e ≡ noted_if r d o → Prepares d o n e
prepared d e o (Ok done) n tells is told after = rw (is, after) (obeying.done (not_refused _ _ told) (obeying.notes tells))
prepared d e o (Err why) n tells is told after = rw (is, after) (obeying.refused (was_refused _ _ told))
