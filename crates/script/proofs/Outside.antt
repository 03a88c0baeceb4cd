-- No refusal of a script comes from inside a call.
use Rattle.std.proofs.Common.{◌≡◌, ℕ, ◌≤◌, Bool, true, false, cond, List, [], ◌∷◌, length, map, IfErr, Some, None, Ok, Err, Option, Result, refl, subst, nat_lt, arith}
use Rattle.cable.specs.Refusals.{number_of}
use Rattle.cable.specs.declared.refusal.Refusal.{Refusal}
use Rattle.cable.specs.declared.refusal.Refusal.TheVariants.{LineTooLong, UnknownWord, Malformed, OutOfPlace, OutOfRange, NoSuchWire, Bare, AlreadyPlanted, WrongCabinetCount, NotATree}
use Rattle.post.specs.Posts.{PostModel}
use Rattle.promise.specs.Banks.{Transport, Bank as Model}
use Rattle.promise.specs.Calls.{bare}
use Rattle.promise.specs.Promise.{limit}
use Rattle.promise.specs.Records as records
use Rattle.promise.specs.Records.{Call, Step, want, leave, sweep}
use Rattle.promise.specs.Tie.{entry_by}
use Rattle.bank.specs.Promised.{Promised}
use Rattle.bank.specs.declared.sweep.Entered.{Entered}
use Rattle.text.specs.Fields.{fields}
use Rattle.script.specs.Calls as calls
use Rattle.script.specs.Calls.{Asks, Asked, SweepsFor}
use Rattle.script.specs.Grounds.{refusal, unless, in_place, in_range, on_a_wire, has_a_bank, has_none_yet, has_few_cabinets, makes_a_tree}
use Rattle.script.specs.Laws.{NotFromInside}
use Rattle.script.specs.Lines.{made, one, two, both, asked, said, read_line}
use Rattle.script.specs.Orders.{Order}
use Rattle.script.specs.Obeying as obeying
use Rattle.script.specs.Obeying.{Obeys}
use Rattle.script.specs.Stages.{Phase, Stage, Draft, naming, drafting, running, unnamed, drafted}
use Rattle.script.specs.Words.{word_named, words}
use Rattle.script.specs.declared.answer.Answer.{Answer}
use Rattle.script.specs.declared.answer.Answer.TheVariants.{Swept, Bound as Bounds}
use Rattle.script.specs.declared.word.Word.{Word}
use Rattle.script.specs.declared.word.Word.TheVariants.{Post, Misses, Pattern, Cabinet, Plant, Want, Leave, Sweep, Bound}
use Rattle.script.proofs.Coming.{OnRecord, step_on, sweeping_on}

-- every refusal is a small one
abbrev Small : {A : Type 0} → Result A Refusal → Type 0
Small r = IfErr r (λ why. number_of why ≤ 17)

abbrev SmallIf : Option Refusal → Type 0
SmallIf None = Unit {0}
SmallIf (Some why) = number_of why ≤ 17

-- the grounds that are the script's own
unless_small : (holds : Bool) (why : Refusal) (o : Option Refusal) → number_of why ≤ 17 → SmallIf o → SmallIf (unless holds why o)
unless_small true why o few h = h
unless_small false why o few h = few

own_small : (p : Phase) (o : Order) → SmallIf (refusal p o)
own_small p o =
    unless_small (in_place p o) OutOfPlace _ (omega arith)
    (unless_small (in_range o) OutOfRange _ (omega arith)
    (unless_small (on_a_wire o) NoSuchWire _ (omega arith)
    (unless_small (has_a_bank p o) Bare _ (omega arith)
    (unless_small (has_none_yet p o) AlreadyPlanted _ (omega arith)
    (unless_small (has_few_cabinets p o) WrongCabinetCount _ (omega arith)
    (unless_small (makes_a_tree p o) NotATree None (omega arith) tt))))))

pub own_outside : (p : Phase) (o : Order) (why : Refusal) → refusal p o ≡ Some why → NotFromInside (Err why)
own_outside p o why e = λ low high. let h = subst SmallIf e (own_small p o) in omega (arith, h)

-- lines that do not read
value_small : {A : Type 0} (o : Option A) → Small {A = A} (elim o [ None ↦ Err Malformed | Some a ↦ Ok a ])
value_small None = omega arith
value_small (Some a) = tt

one_small : {A : Type 0} (read : List ℕ → Option A) (fs : List (List ℕ)) → Small (one read fs)
one_small read [] = omega arith
one_small read (f ∷ []) = value_small (read f)
one_small read (f ∷ g ∷ fs) = omega arith

both_small : {A B : Type 0} (a : Option A) (b : Option B) → Small (both a b)
both_small None b = omega arith
both_small (Some a) None = omega arith
both_small (Some a) (Some b) = tt

two_small : {A B : Type 0} (read_a : List ℕ → Option A) (read_b : List ℕ → Option B) (fs : List (List ℕ)) → Small (two read_a read_b fs)
two_small read_a read_b [] = omega arith
two_small read_a read_b (f ∷ []) = omega arith
two_small read_a read_b (f ∷ g ∷ []) = both_small (read_a f) (read_b g)
two_small read_a read_b (f ∷ g ∷ k ∷ fs) = omega arith

made_small : {A B : Type 0} (f : A → B) (r : Result A Refusal) → Small r → Small (made f r)
made_small f (Ok a) h = tt
made_small f (Err why) h = h

asked_small : (w : Word) (fs : List (List ℕ)) → Small (asked w fs)
asked_small Post fs = made_small _ _ (one_small _ fs)
asked_small Misses fs = made_small _ _ (one_small _ fs)
asked_small Pattern fs = made_small _ _ (two_small _ _ fs)
asked_small Cabinet fs = made_small _ _ (two_small _ _ fs)
asked_small Plant [] = tt
asked_small Plant (f ∷ fs) = omega arith
asked_small Want fs = made_small _ _ (one_small _ fs)
asked_small Leave fs = made_small _ _ (one_small _ fs)
asked_small Sweep fs = made_small _ _ (one_small _ fs)
asked_small Bound fs = made_small _ _ (one_small _ fs)

word_small : (w : Option Word) (fs : List (List ℕ)) → Small (elim w [ None ↦ Err UnknownWord | Some v ↦ asked v fs ])
word_small None fs = omega arith
word_small (Some w) fs = asked_small w fs

said_small : (fs : List (List ℕ)) → Small (said fs)
said_small [] = omega arith
said_small (f ∷ fs) = word_small (word_named f words) fs

long_small : (long : Bool) (r : Result Order Refusal) → Small r → Small (cond long (Err LineTooLong) r)
long_small true r h = omega arith
long_small false r h = h

line_small : (line : List ℕ) → Small (read_line line)
line_small line = long_small (nat_lt 80 (length line)) (said (fields 9 line)) (said_small (fields 9 line))

pub unread_outside : (line : List ℕ) (why : Refusal) → read_line line ≡ Err why → NotFromInside (Err why)
unread_outside line why e = λ low high. let h = subst Small e (line_small line) in omega (arith, h)

-- the calls of a bank whose record is kept
module _ {P : Type 0} (means : P → PostModel) (T : Transport P) (promised : Promised means T) where
  step_outside : (b c : Model P) (k : Call) (why : Refusal) → OnRecord T b → Step T b k (Err why) c → NotFromInside (Err why)
  step_outside b c k why r s =
      let after = step_on T b c k (Err why) r s in
      promised.every_record.no_inner_refusal (entry_by means after.entry) (map (entry_by means) after.earlier) (promised.records_are_kept _ after.kept) why refl

  sweeps_outside : (b c : Model P) (k : ℕ) (r : Result (Option Entered) Refusal) → OnRecord T b → SweepsFor T b k r c → NotFromInside (made (Swept k) r)
  sweeps_outside b c k r kept (calls.all h) = tt
  sweeps_outside b c k r kept (calls.stopped {c = m} {why = why} h few goes) = step_outside m c sweep why (sweeping_on T kept h) (records.sweeps goes)

  bound_outside : (far is_bare : Bool) (s n : ℕ) → NotFromInside (made (Bounds s) (cond far (Err OutOfRange) (cond is_bare (Err Bare) (Ok n))))
  bound_outside true is_bare s n = λ low high. omega arith
  bound_outside false true s n = λ low high. omega arith
  bound_outside false false s n = tt

  asks_outside : (b c : Model P) (o : Order) (a : Result Answer Refusal) → OnRecord T b → Asks means T b o a c → NotFromInside a
  asks_outside b c o a kept (calls.wants {n = n} (Ok w) h) = tt
  asks_outside b c o a kept (calls.wants {n = n} (Err why) h) = step_outside b c (want n) why kept (records.wants h)
  asks_outside b c o a kept (calls.leaves {n = n} (Ok u) h) = tt
  asks_outside b c o a kept (calls.leaves {n = n} (Err why) h) = step_outside b c (leave n) why kept (records.leaves h)
  asks_outside b c o a kept (calls.sweeps {k = k} r h) = sweeps_outside b c k r kept h
  asks_outside b c o a kept (calls.bounds {s = s}) = bound_outside (nat_lt 65535 s) (bare b) s (limit (length b.parents) (means b.post).patience s)

  pub asked_outside : (b c : Model P) (o : Order) (a : Result Answer Refusal) → OnRecord T b → Asked means T b o a c → NotFromInside a
  asked_outside b c o a kept (calls.refused {why = why} e) = own_outside running o why e
  asked_outside b c o a kept (calls.done e h) = asks_outside b c o a kept h

-- before the cabinets are planted there is no call to be refused from inside
first_kept : {t : Stage} (o : Order) (why : Refusal) → Obeys unnamed o (Err why) t → NotFromInside (Err why)
first_kept o why (obeying.refused e) = own_outside naming o why e
first_kept o why (obeying.done e h) = elim h [ ]

draft_kept : {t : Stage} (d : Draft) (o : Order) (why : Refusal) → Obeys (drafted d) o (Err why) t → NotFromInside (Err why)
draft_kept d o why (obeying.refused e) = own_outside (drafting d) o why e
draft_kept d o why (obeying.done e h) = elim h [ ]

pub first_outside : {s t : Stage} (o : Order) (a : Result Answer Refusal) → s ≡ unnamed → Obeys s o a t → NotFromInside a
first_outside o (Ok a) e h = tt
first_outside {t = t} o (Err why) e h = first_kept o why (subst (λ r. Obeys r o (Err why) t) e h)

pub draft_outside : {t : Stage} (d : Draft) (o : Order) (a : Result Answer Refusal) → Obeys (drafted d) o a t → NotFromInside a
draft_outside d o (Ok a) h = tt
draft_outside d o (Err why) h = draft_kept d o why h
