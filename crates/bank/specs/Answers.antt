-- What each answer of a bank's calls says.
use Rattle.std.specs.Prelude.{◌≡◌, ℕ, ◌<◌, Bool, true, false, cond, List, length, Some, None, Ok, Err, Option, Result, MatchResult, nat_lt, slice_index, slice_index_or}
use Rattle.cabinet.specs.Models.{Model as CabinetModel, waits}
use Rattle.cabinet.specs.Tables.{View, blank}
use Rattle.cabinet.specs.Parties.{own}
use Rattle.cable.specs.declared.number.CabinetNo.{CabinetNo}
use Rattle.cable.specs.declared.refusal.Refusal.{Refusal}
use Rattle.cable.specs.declared.refusal.Refusal.TheVariants.{OutOfRange, Bare}
use Rattle.promise.specs.Banks.{Bank as Model}
use Rattle.promise.specs.Calls.{bare, call_refusal}
use Rattle.promise.specs.Promise.{limit}
use Rattle.promise.specs.Records.{model_at}
use Rattle.bank.specs.declared.calls.Wanted.{Wanted}
use Rattle.bank.specs.declared.calls.Wanted.TheVariants as wanted
use Rattle.bank.specs.declared.sweep.Entered.{Entered}
use Rattle.bank.specs.declared.tell.Status.{Status}
use Rattle.bank.specs.declared.tell.Status.TheVariants.{Rest, Waits, In}

-- whether the cabinet went in on its want
abbrev pub went_in : Wanted → Bool
went_in wanted.In = true
went_in wanted.Waits = false

abbrev pub want_answer : Result Wanted Refusal → Result Bool Refusal
want_answer (Ok w) = Ok (went_in w)
want_answer (Err why) = Err why

-- who went in last in a sweep, with its wait count
abbrev pub sweep_answer : Result (Option Entered) Refusal → Result (Option (ℕ × ℕ)) Refusal
sweep_answer (Ok None) = Ok None
sweep_answer (Ok (Some e)) = Ok (Some (e.cabinet.0, e.wait))
sweep_answer (Err why) = Err why

-- a cabinet is in, or waits, with its wait count, or rests
abbrev pub status_of : CabinetModel → ℕ → Status
status_of m count = cond m.inside In (cond (waits m) (Waits count) Rest)

abbrev pub state_of : {P : Type 0} → Model P → ℕ → Result Status Refusal
state_of b n = elim (call_refusal b n) [ Some why ↦ Err why | None ↦ Ok (status_of (model_at b n) (slice_index b.waits n)) ]

-- whether the privilege is at cabinet n
abbrev pub privilege_at : {P : Type 0} → Model P → ℕ → Result Bool Refusal
privilege_at b n = elim (call_refusal b n) [ Some why ↦ Err why | None ↦ Ok (own (model_at b n).holder) ]

abbrev pub waits_at : List View → ℕ → Bool
waits_at vs k = waits (slice_index_or vs k blank).model

-- some waiting cabinet of the first n, and none exactly when none of them waits
abbrev pub WaiterAmong : List View → ℕ → Option CabinetNo → Type 0
WaiterAmong vs n None = (k : ℕ) → k < n → waits_at vs k ≡ false
WaiterAmong vs n (Some k) = (k.0 < n) × (waits_at vs k.0 ≡ true)

pub record TellsWaiter {P : Type 0} (b : Model P) (r : Result (Option CabinetNo) Refusal) : Type 0 where
  pub refused : bare b ≡ true → r ≡ Err Bare
  pub told : bare b ≡ false → MatchResult r (WaiterAmong b.views (length b.parents)) (λ why. ⊥)

-- the limit for stays up to S, over a post with patience K
abbrev pub bound_of : {P : Type 0} → Model P → ℕ → ℕ → Result ℕ Refusal
bound_of b K S = cond (nat_lt 65535 S) (Err OutOfRange) (cond (bare b) (Err Bare) (Ok (limit (length b.parents) K S)))
