-- The bank of a script that began new has a whole record behind it.
use Rattle.std.proofs.Common.{◌≡◌, ℕ, true, List, [], ◌∷◌, Ok, Err, Option, Result, sym, refl, subst}
use Rattle.cable.specs.declared.number.CabinetNo.{CabinetNo}
use Rattle.cable.specs.declared.refusal.Refusal.{Refusal}
use Rattle.post.specs.Posts.{PostModel}
use Rattle.promise.specs.Banks.{Transport, Bank as Model}
use Rattle.promise.specs.Calls.{bare}
use Rattle.promise.specs.Records as records
use Rattle.promise.specs.Records.{Call, Said, Entry, Record, Step, plant, planted}
use Rattle.bank.specs.declared.sweep.Entered.{Entered}
use Rattle.script.specs.Calls as calls
use Rattle.script.specs.Calls.{Asks, Sweeping, SweepsFor}
use Rattle.script.specs.Laws as laws
use Rattle.script.specs.Laws.{Comes}
use Rattle.script.specs.Lines.{read_line}
use Rattle.script.specs.Obeying as obeying
use Rattle.script.specs.Obeying.{Does, Obeys, PlantedOver, straight_rules, clean_rules, patterned_rules}
use Rattle.script.specs.Orders.{Order}
use Rattle.script.specs.Scripts.{ReadAs}
use Rattle.script.specs.Stages.{Stage, unnamed, drafted, over_straight, over_clean, over_retry}
use Rattle.script.specs.declared.answer.Answer.{Answer}

pub record OnRecord {P : Type 0} (T : Transport P) (b : Model P) : Type 0 where
  pub entry : Entry P
  pub earlier : List (Entry P)
  pub kept : Record T (λ c. bare c ≡ true) (entry ∷ earlier)
  pub is : entry.after ≡ b

module _ {P : Type 0} (T : Transport P) where
  planted_on : (p : P) (ps : List CabinetNo) (c : Model P) → PlantedOver T p ps c → OnRecord T c
  planted_on p ps c h =
      record {
        entry = record { call = plant ps; answer = Ok planted; after = c };
        earlier = [];
        kept = records.begun (rw h.new.parents refl) (records.plants h.plants);
        is = refl;
      }

  abbrev pub step_on : (b c : Model P) (k : Call) (a : Result Said Refusal) → OnRecord T b → Step T b k a c → OnRecord T c
  step_on b c k a r s =
      record {
        entry = record { call = k; answer = a; after = c };
        earlier = r.entry ∷ r.earlier;
        kept = records.next r.kept (subst (λ x. Step T x k a c) (sym r.is) s);
        is = refl;
      }

  pub sweeping_on : {b c : Model P} {k : ℕ} {last : Option Entered} → OnRecord T b → Sweeping T b k last c → OnRecord T c
  sweeping_on r calls.begun = r
  sweeping_on r (calls.further went before goes) = step_on _ _ _ _ (sweeping_on r before) (records.sweeps goes)

  sweeps_on : {b c : Model P} {k : ℕ} {a : Result (Option Entered) Refusal} → OnRecord T b → SweepsFor T b k a c → OnRecord T c
  sweeps_on r (calls.all h) = sweeping_on r h
  sweeps_on r (calls.stopped h few goes) = step_on _ _ _ _ (sweeping_on r h) (records.sweeps goes)

  asks_on : {means : P → PostModel} {b c : Model P} {o : Order} {a : Result Answer Refusal} → OnRecord T b → Asks means T b o a c → OnRecord T c
  asks_on r (calls.wants said h) = step_on _ _ _ _ r (records.wants h)
  asks_on r (calls.leaves said h) = step_on _ _ _ _ r (records.leaves h)
  asks_on r (calls.sweeps said h) = sweeps_on r h
  asks_on r calls.bounds = r

abbrev pub Recorded : Stage → Type 0
Recorded unnamed = Unit {0}
Recorded (drafted d) = Unit {0}
Recorded (over_straight b) = OnRecord straight_rules b
Recorded (over_clean b) = OnRecord clean_rules b
Recorded (over_retry b) = OnRecord patterned_rules b

does_on : {s t : Stage} {o : Order} {a : Result Answer Refusal} → Recorded s → Does s o a t → Recorded t
does_on r obeying.names = tt
does_on r (obeying.notes e) = tt
does_on r (obeying.plants (obeying.over_a_straight e new h)) = planted_on straight_rules _ _ _ h
does_on r (obeying.plants (obeying.over_a_clean e new h)) = planted_on clean_rules _ _ _ h
does_on r (obeying.plants (obeying.over_a_patterned e new h)) = planted_on patterned_rules _ _ _ h
does_on r (obeying.asks_straight h) = asks_on straight_rules r h
does_on r (obeying.asks_clean h) = asks_on clean_rules r h
does_on r (obeying.asks_retry h) = asks_on patterned_rules r h

obeys_on : {s t : Stage} {o : Order} {a : Result Answer Refusal} → Recorded s → Obeys s o a t → Recorded t
obeys_on r (obeying.refused e) = r
obeys_on r (obeying.done e h) = does_on r h

told_on : (s t : Stage) (l : Result Order Refusal) (a : Result Answer Refusal) → Recorded s → ReadAs s l a t → Recorded t
told_on s t (Ok o) a r h = obeys_on r h
told_on s t (Err why) a r h = subst Recorded (sym h.1) r

pub comes_on : {s : Stage} → Comes s → Recorded s
comes_on laws.new = tt
comes_on (laws.told s line a before h) = told_on s _ (read_line line) a (comes_on before) h
