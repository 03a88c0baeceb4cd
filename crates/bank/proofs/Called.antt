-- A want at one cabinet of a planted bank.
use Rattle.std.proofs.Common.{◌≡◌, ℕ, Bool, List, None, Ok, sym, subst, slice_set}
use Rattle.cabinet.specs.declared.event.Event.TheVariants.{Want}
use Rattle.cabinet.specs.declared.event.Reaction.{Reaction}
use Rattle.promise.specs.Banks.{Transport, Bank as Model, with_waits}
use Rattle.promise.specs.Calls as calls
use Rattle.promise.specs.Calls.{call_refusal, Wants}
use Rattle.promise.specs.Events.{Happens}

-- a want that was done, but for the wait count, which begins again
pub wanted : {P : Type 0} (T : Transport P) (b c : Model P) (n : ℕ) (a : Reaction) (said : Bool) (ws : List ℕ) → call_refusal b n ≡ None
    → Happens T b n Want (Ok a) c → ws ≡ slice_set c.waits n 0 → a.entered ≡ said → Wants T b n (Ok said) (with_waits c ws)
wanted T b c n a said ws ready h is told =
    subst (λ s. Wants T b n (Ok s) (with_waits c ws)) told (subst (λ v. Wants T b n (Ok a.entered) (with_waits c v)) (sym is) (calls.done ready h))
