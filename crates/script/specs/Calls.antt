-- The calls of a planted bank, by the lines that ask for them.
use Rattle.std.specs.Prelude.{◌≡◌, ℕ, suc, ◌<◌, Some, None, Ok, Err, Option, Result}
use Rattle.std.specs.Option.{option_or}
use Rattle.cable.specs.declared.refusal.Refusal.{Refusal}
use Rattle.post.specs.Posts.{PostModel}
use Rattle.promise.specs.Banks.{Transport, Bank as Model}
use Rattle.promise.specs.Calls.{Wants, Leaves, Sweeps}
use Rattle.bank.specs.Answers.{want_answer, sweep_answer, bound_of}
use Rattle.bank.specs.declared.calls.Wanted.{Wanted}
use Rattle.bank.specs.declared.sweep.Entered.{Entered}
use Rattle.script.specs.Grounds.{refusal}
use Rattle.script.specs.Lines.{made}
use Rattle.script.specs.Orders.{Order, want, leave, sweep, bound}
use Rattle.script.specs.Stages.{running}
use Rattle.script.specs.declared.answer.Answer.{Answer}
use Rattle.script.specs.declared.answer.Answer.TheVariants.{Wanted as WantedAs, Left, Swept, Bound}

-- so many sweeps one after the other, and who went in last
pub data Sweeping {P : Type 0} (T : Transport P) (b : Model P) : ℕ → Option Entered → Model P → Type 0 where
  begun : Sweeping T b 0 None b
  further : {k : ℕ} {last : Option Entered} {c d : Model P} (went : Option Entered) → Sweeping T b k last c → Sweeps T c (sweep_answer (Ok went)) d
      → Sweeping T b (suc k) (option_or went last) d

-- a sweep that is refused from inside ends them
pub data SweepsFor {P : Type 0} (T : Transport P) (b : Model P) (count : ℕ) : Result (Option Entered) Refusal → Model P → Type 0 where
  all : {last : Option Entered} {c : Model P} → Sweeping T b count last c → SweepsFor T b count (Ok last) c
  stopped : {k : ℕ} {last : Option Entered} {c d : Model P} {why : Refusal} → Sweeping T b k last c → k < count → Sweeps T c (Err why) d
      → SweepsFor T b count (Err why) d

pub data Asks {P : Type 0} (means : P → PostModel) (T : Transport P) (b : Model P) : Order → Result Answer Refusal → Model P → Type 0 where
  wants : {n : ℕ} {c : Model P} (r : Result Wanted Refusal) → Wants T b n (want_answer r) c
      → Asks means T b (want n) (made (WantedAs (record { 0 = n })) r) c
  leaves : {n : ℕ} {c : Model P} (r : Result (Unit {0}) Refusal) → Leaves T b n r c → Asks means T b (leave n) (made (λ _. Left (record { 0 = n })) r) c
  sweeps : {k : ℕ} {c : Model P} (r : Result (Option Entered) Refusal) → SweepsFor T b k r c → Asks means T b (sweep k) (made (Swept k) r) c
  bounds : {s : ℕ} → Asks means T b (bound s) (made (Bound s) (bound_of b (means b.post).patience s)) b

-- a planted bank is asked, unless the script refuses the line
pub data Asked {P : Type 0} (means : P → PostModel) (T : Transport P) (b : Model P) (o : Order) : Result Answer Refusal → Model P → Type 0 where
  refused : {why : Refusal} → refusal running o ≡ Some why → Asked means T b o (Err why) b
  done : {a : Result Answer Refusal} {c : Model P} → refusal running o ≡ None → Asks means T b o a c → Asked means T b o a c
