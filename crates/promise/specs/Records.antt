-- A record of a bank: its done plant first, and then entries, each one call, done or refused, from the bank and post that the entry
-- before left. The newest entry stands first.
use Rattle.std.specs.Prelude.{◌≡◌, ℕ, ◌+◌, ◌≤◌, Bool, true, false, cond, List, [], ◌∷◌, ◌++◌, Ok, Err, Option, Result, ◌≢◌, slice_index_or}
use Rattle.cable.specs.declared.number.CabinetNo.{CabinetNo}
use Rattle.cable.specs.declared.refusal.Refusal.{Refusal}
use Rattle.cabinet.specs.Models.{Model}
use Rattle.cabinet.specs.Tables.{blank}
use Rattle.promise.specs.Banks.{Transport, Bank}
use Rattle.promise.specs.Calls.{Plants, Wants, Leaves, Sweeps}

pub data Call : Type 0 where
  plant : List CabinetNo → Call
  want : ℕ → Call
  leave : ℕ → Call
  sweep : Call

pub data Said : Type 0 where
  planted : Said
  wanted : Bool → Said
  left : Said
  swept : Option (ℕ × ℕ) → Said

pub record Entry (P : Type 0) : Type 0 where
  pub call : Call
  pub answer : Result Said Refusal
  pub after : Bank P

abbrev pub said : {A : Type 0} → (A → Said) → Result A Refusal → Result Said Refusal
said f (Ok a) = Ok (f a)
said f (Err why) = Err why

-- one call, from one bank to the next
pub data Step {P : Type 0} (T : Transport P) (b : Bank P) : Call → Result Said Refusal → Bank P → Type 0 where
  plants : {ps : List CabinetNo} {r : Result (Unit {0}) Refusal} {c : Bank P} → Plants T b ps r c → Step T b (plant ps) (said (λ _. planted) r) c
  wants : {n : ℕ} {r : Result Bool Refusal} {c : Bank P} → Wants T b n r c → Step T b (want n) (said wanted r) c
  leaves : {n : ℕ} {r : Result (Unit {0}) Refusal} {c : Bank P} → Leaves T b n r c → Step T b (leave n) (said (λ _. left) r) c
  sweeps : {r : Result (Option (ℕ × ℕ)) Refusal} {c : Bank P} → Sweeps T b r c → Step T b sweep (said swept r) c

pub data Record {P : Type 0} (T : Transport P) (New : Bank P → Type 0) : List (Entry P) → Type 0 where
  begun : {b c : Bank P} {ps : List CabinetNo} → New b → Step T b (plant ps) (Ok planted) c
      → Record T New (record { call = plant ps; answer = Ok planted; after = c } ∷ [])
  next : {e : Entry P} {es : List (Entry P)} {k : Call} {a : Result Said Refusal} {c : Bank P} → Record T New (e ∷ es) → Step T e.after k a c
      → Record T New (record { call = k; answer = a; after = c } ∷ (e ∷ es))

abbrev pub is_sweep : Call → Bool
is_sweep (plant ps) = false
is_sweep (want n) = false
is_sweep (leave n) = false
is_sweep sweep = true

-- how many of the entries are sweeps
abbrev pub sweeps_in : {P : Type 0} → List (Entry P) → ℕ
sweeps_in [] = 0
sweeps_in (e ∷ es) = cond (is_sweep e.call) 1 0 + sweeps_in es

abbrev pub model_at : {P : Type 0} → Bank P → ℕ → Model
model_at b n = (slice_index_or b.views n blank).model

-- after these entries, newest first, cabinet n is in
abbrev pub inside_after : {P : Type 0} → List (Entry P) → ℕ → Bool
inside_after [] n = false
inside_after (e ∷ es) n = (model_at e.after n).inside

-- cabinet n goes in on entry e, which follows the entries es
pub record GoesIn {P : Type 0} (n : ℕ) (e : Entry P) (es : List (Entry P)) : Type 0 where
  pub before : inside_after es n ≡ false
  pub after : inside_after (e ∷ es) n ≡ true

-- none of the entries is a done leave of cabinet n
abbrev pub NoLeave : {P : Type 0} → ℕ → List (Entry P) → Type 0
NoLeave n [] = Unit {0}
NoLeave n (e ∷ es) = (e.call ≡ leave n → e.answer ≢ Ok left) × NoLeave n es

-- a stay: the sweeps after the entry on which a cabinet goes in, until its done leave or, if it has none, all that follow; none is longer
-- than S
abbrev pub NoStayOver : {P : Type 0} → ℕ → List (Entry P) → Type 0
NoStayOver {P} S es =
    (n : ℕ) (later stay old : List (Entry P)) (e : Entry P) → es ≡ later ++ (stay ++ (e ∷ old)) → GoesIn n e old → NoLeave n stay → sweeps_in stay ≤ S
