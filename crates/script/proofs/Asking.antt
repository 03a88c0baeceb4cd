-- A planted bank is asked, call by call.
use Rattle.std.proofs.Common.{◌≡◌, ℕ, ◌+◌, Bool, true, false, nat_le, nat_lt, suc, Some, None, Ok, Option, sym, refl, subst, add-one, arith}
use Rattle.std.proofs.lemmas.Bool.Decides.{nat_tests}
use Rattle.std.specs.Option.{option_or}
use Rattle.cable.specs.declared.refusal.Refusal.TheVariants.{OutOfRange}
use Rattle.promise.specs.Banks.{Transport, Bank as Model}
use Rattle.promise.specs.Calls.{Sweeps}
use Rattle.post.specs.Posts.{PostModel}
use Rattle.bank.specs.Answers.{sweep_answer, bound_of}
use Rattle.bank.specs.Banks.{bank_of}
use Rattle.bank.specs.declared.bank.Bank.{Bank}
use Rattle.bank.specs.declared.cabinets.Cabinets.{Cabinets}
use Rattle.bank.specs.declared.sweep.Entered.{Entered}
use Rattle.script.specs.Calls as calls
use Rattle.script.specs.Calls.{Asked, Sweeping, further}
use Rattle.script.specs.Lines.{made}
use Rattle.script.specs.Orders.{bound}
use Rattle.script.specs.declared.answer.Answer.TheVariants.{Bound}

module _ {P : Type 0} (T : Transport P) (b : Model P) where
  pub one_more : (k : ℕ) (last went now : Option Entered) (c d : Model P) → now ≡ option_or went last → Sweeping T b k last c
      → Sweeps T c (sweep_answer (Ok went)) d → Sweeping T b (k + 1) now d
  one_more k last went now c d is before goes =
      subst (λ j. Sweeping T b j now d) (sym (add-one k))
      (subst (λ o. Sweeping T b (suc k) o d) (sym is) (further went before goes))

  pub count_is : (j k : ℕ) (last : Option Entered) (c : Model P) → j ≡ k → Sweeping T b j last c → Sweeping T b k last c
  count_is j k last c e h = subst (λ i. Sweeping T b i last c) e h

-- the limit, or that none is told for stays so long
pub bounded : {P : Type 0} (means : P → PostModel) (T : Transport P) (b : Model P) (s : ℕ) (p : P) → b.post ≡ p
    → Asked means T b (bound s) (made (Bound s) (bound_of b (means p).patience s)) b
bounded means T b s p is =
    subst (λ q. Asked means T b (bound s) (made (Bound s) (bound_of b (means q).patience s)) b) is
    (by_range (nat_le s 65535) refl)
  where
    by_range : (t : Bool) → nat_le s 65535 ≡ t → Asked means T b (bound s) (made (Bound s) (bound_of b (means b.post).patience s)) b
    by_range true e = calls.done (rw e refl) calls.bounds
    by_range false e =
        let far : nat_lt 65535 s ≡ true = grind (arith, nat_tests) in
        rw far (calls.refused {why = OutOfRange} (rw e refl))

pub its_post : {P : Type 0} (b : Bank P) → (bank_of b).post ≡ b.post
its_post {P = P} b = by_cabinets b.cabinets b.post
  where
    by_cabinets : (w : Option Cabinets) (p : P) → (bank_of {P = P} (record { cabinets = w; post = p })).post ≡ p
    by_cabinets None p = refl
    by_cabinets (Some v) p = refl
