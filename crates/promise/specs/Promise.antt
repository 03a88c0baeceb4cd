-- The promise, of every record of a bank over any post.
use Rattle.std.specs.Prelude.{◌≡◌, ℕ, zero, suc, ◌+◌, ◌-◌, ◌*◌, ◌≤◌, Bool, true, cond, ◌⊎◌, List, [], ◌∷◌, ◌++◌, length, Ok, Err}
use Rattle.cable.specs.Numbers.{lanes}
use Rattle.cable.specs.Refusals.{number_of}
use Rattle.cable.specs.declared.message.Message.{Message}
use Rattle.cable.specs.declared.message.Message.TheVariants.{Request, Privilege}
use Rattle.cable.specs.declared.refusal.Refusal.{Refusal}
use Rattle.cabinet.specs.Parties.{own}
use Rattle.post.specs.Posts.{PostModel, PostSound}
use Rattle.promise.specs.Banks.{Bank, any_post}
use Rattle.promise.specs.Calls.{bare}
use Rattle.promise.specs.Records.{Entry, Record, GoesIn, NoStayOver, sweeps_in, model_at, want, wanted}

-- a sum over the numbers below n
abbrev pub total : ℕ → (ℕ → ℕ) → ℕ
total zero f = 0
total (suc n) f = f n + total n f

-- how many cabinets have the privilege
abbrev pub holding : Bank PostModel → ℕ
holding b = total (length b.parents) (λ k. cond (own (model_at b k).holder) 1 0)

abbrev pub privileges : List Message → ℕ
privileges [] = 0
privileges (Request ∷ ms) = privileges ms
privileges (Privilege ∷ ms) = 1 + privileges ms

-- how many privileges are under way, on all lanes
abbrev pub under_way : Bank PostModel → ℕ
under_way b = total lanes (λ l. privileges (b.post.waiting l))

-- a new bank is bare, over any post
pub record NewBank (b : Bank PostModel) : Type 0 where
  pub bare : bare b ≡ true
  pub sound : PostSound b.post

abbrev pub Kept : List (Entry PostModel) → Type 0
Kept es = Record any_post NewBank es

-- cabinets that have the privilege and privileges under way, counted together, are exactly one
abbrev pub ExactlyOnePrivilege : Type 0
ExactlyOnePrivilege = (e : Entry PostModel) (es : List (Entry PostModel)) → Kept (e ∷ es) → holding e.after + under_way e.after ≡ 1

abbrev pub AtMostOneIn : Type 0
AtMostOneIn =
    (e : Entry PostModel) (es : List (Entry PostModel)) → Kept (e ∷ es) → (j k : ℕ) → (model_at e.after j).inside ≡ true
    → (model_at e.after k).inside ≡ true → j ≡ k

-- no entry is refused from inside: by 18, 19, 20 or 21
abbrev pub NoInnerRefusal : Type 0
NoInnerRefusal =
    (e : Entry PostModel) (es : List (Entry PostModel)) → Kept (e ∷ es) → (why : Refusal) → e.answer ≡ Err why → 18 ≤ number_of why
    → number_of why ≤ 21 → ⊥

-- the limit on a wait, in sweeps: N cabinets, patience K, no stay longer than S
abbrev pub limit : ℕ → ℕ → ℕ → ℕ
limit N K S = (N - 1) * (3 * (K + 1) + S)

abbrev pub limit_at : Bank PostModel → ℕ → ℕ
limit_at b S = limit (length b.parents) b.post.patience S

-- cabinet n goes in on one of the entries new, which follow the entries old, before more than L sweeps
pub record GoesInWithin (n L : ℕ) (new old : List (Entry PostModel)) : Type 0 where
  pub later : List (Entry PostModel)
  pub entry : Entry PostModel
  pub earlier : List (Entry PostModel)
  pub parts : new ≡ later ++ (entry ∷ earlier)
  pub soon : sweeps_in (entry ∷ earlier) ≤ L
  pub goes_in : GoesIn n entry (earlier ++ old)

-- a cabinet whose want is done goes in on that entry or on one of the next sweeps up to the limit, if so many follow
abbrev pub NobodyWaitsLonger : Type 0
NobodyWaitsLonger =
    (S n : ℕ) (entered : Bool) (new old : List (Entry PostModel)) (e : Entry PostModel) → Kept (new ++ (e ∷ old)) → NoStayOver S (new ++ (e ∷ old))
    → e.call ≡ want n → e.answer ≡ Ok (wanted entered) → limit_at e.after S ≤ sweeps_in new
    → GoesIn n e old ⊎ GoesInWithin n (limit_at e.after S) new (e ∷ old)

pub record EveryRecord : Type 0 where
  pub exactly_one_privilege : ExactlyOnePrivilege
  pub at_most_one_in : AtMostOneIn
  pub no_inner_refusal : NoInnerRefusal
  pub nobody_waits_longer : NobodyWaitsLonger
