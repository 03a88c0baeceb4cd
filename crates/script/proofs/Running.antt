-- A script whose bank is planted asks its bank.
use Rattle.std.proofs.Common.{◌≡◌, Some, None, Result, subst, sym}
use Rattle.cable.specs.declared.refusal.Refusal.{Refusal}
use Rattle.post.specs.Posts.{PostModel}
use Rattle.promise.specs.Banks.{Transport, Bank as Model}
use Rattle.script.specs.Calls as calls
use Rattle.script.specs.Calls.{Asks, Asked}
use Rattle.script.specs.Grounds.{refusal}
use Rattle.script.specs.Obeying as obeying
use Rattle.script.specs.Obeying.{Does, Obeys}
use Rattle.script.specs.Orders.{Order}
use Rattle.script.specs.Stages.{Stage, phase_of, running}
use Rattle.script.specs.declared.answer.Answer.{Answer}

-- by the stage that a bank of this kind is
module _ {P : Type 0} (means : P → PostModel) (T : Transport P) (over : Model P → Stage) (runs : (b : Model P) → phase_of (over b) ≡ running)
    (does : (o : Order) (a : Result Answer Refusal) (b c : Model P) → Asks means T b o a c → Does (over b) o a (over c)) where
  pub asked_so : (o : Order) (a : Result Answer Refusal) (b c : Model P) → Asked means T b o a c → Obeys (over b) o a (over c)
  asked_so o a b c (calls.refused {why = why} e) = obeying.refused (subst (λ p. refusal p o ≡ Some why) (sym (runs b)) e)
  asked_so o a b c (calls.done e h) = obeying.done (subst (λ p. refusal p o ≡ None) (sym (runs b)) e) (does o a b c h)
