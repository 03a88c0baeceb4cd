-- Whole calls and whole records: after every entry the bank is good, and no entry is refused from inside.
use Rattle.std.proofs.Common.{◌≡◌, ℕ, ◌+◌, ◌<◌, ◌≤◌, Bool, true, false, cond, leb, List, ◌∷◌, length, set, Some, None, Ok, Err, Option, Result, sym, refl, ap, ◌∙◌, subst, ⊎_elim, arith}
use Rattle.std.proofs.lemmas.Bool.{cases_Bool, cases_order, cases_lt, cond-true, cond-false, lt-ltb}
use Rattle.cable.specs.Numbers.{lanes as laneCount}
use Rattle.cable.specs.Refusals.{number_of}
use Rattle.cable.specs.declared.number.CabinetNo.{CabinetNo}
use Rattle.cable.specs.declared.refusal.Refusal.{Refusal}
use Rattle.cable.specs.declared.refusal.Refusal.TheVariants.{Bare, AlreadyPlanted, MessageWaiting, NoSuchCabinet, AlreadyWants, NotIn}
use Rattle.cabinet.specs.Kept.{near_by}
use Rattle.cabinet.specs.Models.{Model, refused}
use Rattle.cabinet.specs.Reactions.{reaction}
use Rattle.cabinet.specs.Parties.{own}
use Rattle.cabinet.specs.Tables.{answer_at, PlantedAs}
use Rattle.cabinet.specs.declared.event.Event.{Event}
use Rattle.cabinet.specs.declared.event.Event.TheVariants.{Want, Leave}
use Rattle.cabinet.specs.declared.event.Reaction.{Reaction}
use Rattle.post.specs.Posts.{PostModel, PostSound}
use Rattle.promise.proofs.Goings.{call_small, plants_nothing}
use Rattle.promise.proofs.Good.{Good, Taken, members_at}
use Rattle.promise.proofs.Planting.{planted_good, idle_below}
use Rattle.promise.proofs.Reading.{After, good_over, nothing_taken, happens_done, reads_good, through_good}
use Rattle.promise.proofs.Totals.{total_two}
use Rattle.promise.specs.Banks.{Bank, any_post, with_waits}
use Rattle.promise.specs.Calls as calls
use Rattle.promise.specs.Calls.{bare, busy_below, call_refusal, plant_refusal, Plants, Wants, Leaves, Sweeps}
use Rattle.promise.specs.Events as events
use Rattle.promise.specs.Events.{Happens}
use Rattle.promise.specs.Promise.{Kept, NewBank, ExactlyOnePrivilege, AtMostOneIn, NoInnerRefusal, holding, under_way}
use Rattle.promise.specs.Records.{Call, plant, Said, planted, said, Entry, Step, plants, wants, leaves, sweeps, begun, next, model_at}
use Rattle.promise.specs.Sweeps as lanes
use Rattle.promise.specs.Sweeps.{SweptLanes, counted}
use Rattle.tree.specs.Trees.{lanes_of, tree_refusal}

-- a refusal that does not come from inside
abbrev pub Outer : {A : Type 0} → Result A Refusal → Type 0
Outer r = (why : Refusal) → r ≡ Err why → 18 ≤ number_of why → number_of why ≤ 21 → ⊥

ok_outer : {A : Type 0} (a : A) → Outer {A = A} (Ok a)
ok_outer a why e = absurd (grind arith)

number_outer : {A : Type 0} (w : Refusal) → number_of w ≤ 17 → Outer {A = A} (Err w)
number_outer w s why e a b = let is : w ≡ why = cc in omega (arith, ap number_of is)

-- an event that comes with nothing from the post is done, or the cabinet refuses it and nothing changes
module _ (b : Bank PostModel) (g : Good b) (x : ℕ) (small : x < length b.parents) (e : Event) (t : Taken b b.post x e) where
  by_refusal : (o : Option Refusal) → refused (near_by (members_at b x)) (model_at b x) e ≡ o → {r : Result Reaction Refusal} {c : Bank PostModel}
      → Happens any_post b x e r c → After b c × ((why : Refusal) → r ≡ Err why → refused (near_by (members_at b x)) (model_at b x) e ≡ Some why)
  by_refusal None n h =
      let d = happens_done b g b.post x small e t n h in (d.1, λ why w. let z = sym d.0 ∙ w in absurd (grind arith))
  by_refusal (Some w₀) n h = turned h
    where
      no : answer_at b.views x e ≡ Err w₀
      no =
          cond-true _ _ _ (lt-ltb x 16 (omega (arith, g.few)))
          ∙ ap (λ o. elim o as (λ _. Result Reaction Refusal) [ None ↦ Ok (reaction (model_at b x) e) | Some why ↦ Err why ]) n

      turned : {r : Result Reaction Refusal} {c : Bank PostModel} → Happens any_post b x e r c
          → After b c × ((why : Refusal) → r ≡ Err why → refused (near_by (members_at b x)) (model_at b x) e ≡ Some why)
      turned (events.refused {why = w₁} eq) = (
        record { good = g; parents = refl; patience = refl },
        λ why w. let z = sym no ∙ eq ∙ w in n ∙ (let i : w₀ ≡ why = cc in ap Some i),
      )
      turned (events.done eq posted) = let z = sym no ∙ eq in absurd (grind arith)
      turned (events.stopped eq posted) = let z = sym no ∙ eq in absurd (grind arith)

  pub event_or_refused : {r : Result Reaction Refusal} {c : Bank PostModel}
      → Happens any_post b x e r c → After b c × ((why : Refusal) → r ≡ Err why → refused (near_by (members_at b x)) (model_at b x) e ≡ Some why)
  event_or_refused h = by_refusal (refused (near_by (members_at b x)) (model_at b x) e) refl h

want_number : (near : CabinetNo → Bool) (m : Model) (why : Refusal) → refused near m Want ≡ Some why → number_of why ≤ 17
want_number near m why e = let is : why ≡ AlreadyWants = grind arith in omega (arith, ap number_of is)

leave_number : (near : CabinetNo → Bool) (m : Model) (why : Refusal) → refused near m Leave ≡ Some why → number_of why ≤ 17
leave_number near m why e = let is : why ≡ NotIn = grind arith in omega (arith, ap number_of is)

-- why a call to one cabinet is refused at once
call_number : (b : Bank PostModel) (n : ℕ) (why : Refusal) → call_refusal b n ≡ Some why → number_of why ≤ 17
call_number b n why e =
    ⊎_elim (λ (t : bare b ≡ true). let z = sym (cond-true _ _ _ t) ∙ e in let is : why ≡ Bare = cc in omega (arith, ap number_of is))
    (λ (t : bare b ≡ false). ⊎_elim
    (λ (u : leb (length b.parents) n ≡ true).
    let z = sym (cond-false _ _ _ t ∙ cond-true _ _ _ u) ∙ e in let is : why ≡ NoSuchCabinet = cc in omega (arith, ap number_of is))
    (λ (u : leb (length b.parents) n ≡ false). let z = sym (cond-false _ _ _ t ∙ cond-false _ _ _ u) ∙ e in absurd (grind arith))
    (cases_Bool (leb (length b.parents) n))) (cases_Bool (bare b))

-- one call on a planted bank
module _ (b : Bank PostModel) (g : Good b) where
  stays : After b b
  stays = record { good = g; parents = refl; patience = refl }

  plants_good : {ps : List CabinetNo} {r : Result (Unit {0}) Refusal} {c : Bank PostModel} → Plants any_post b ps r c → After b c × Outer r
  plants_good {ps} {r} {c} s =
      let d = plants_nothing b g s in
      (subst (After b) (sym d.1) stays, subst Outer (sym d.0) (number_outer AlreadyPlanted (omega arith)))

  wants_good : {n : ℕ} {r : Result Bool Refusal} {c : Bank PostModel} → Wants any_post b n r c → After b c × Outer r
  wants_good (calls.refused {why = why} e) = (stays, number_outer why (call_number b _ why e))
  wants_good {n} (calls.done {c = c} e h) =
      let d = (event_or_refused b g n (call_small b n e) Want (nothing_taken b n Want (λ k ms. refl) refl g) h).0 in
      (record { good = good_over c c.post (set c.waits n 0) d.good d.good.sound (λ l. refl); parents = d.parents; patience = d.patience }, ok_outer _)
  wants_good {n} (calls.inside {why = why} e h) =
      let d = event_or_refused b g n (call_small b n e) Want (nothing_taken b n Want (λ k ms. refl) refl g) h in
      (d.0, number_outer why (want_number (near_by (members_at b n)) (model_at b n) why (d.1 why refl)))

  leaves_good : {n : ℕ} {r : Result (Unit {0}) Refusal} {c : Bank PostModel} → Leaves any_post b n r c → After b c × Outer r
  leaves_good (calls.refused {why = why} e) = (stays, number_outer why (call_number b _ why e))
  leaves_good {n} (calls.done e h) = ((event_or_refused b g n (call_small b n e) Leave (nothing_taken b n Leave (λ k ms. refl) refl g) h).0, ok_outer _)
  leaves_good {n} (calls.inside {why = why} e h) =
      let d = event_or_refused b g n (call_small b n e) Leave (nothing_taken b n Leave (λ k ms. refl) refl g) h in
      (d.0, number_outer why (leave_number (near_by (members_at b n)) (model_at b n) why (d.1 why refl)))

  sweeps_good : {r : Result (Option (ℕ × ℕ)) Refusal} {c : Bank PostModel} → Sweeps any_post b r c → After b c × Outer r
  sweeps_good (calls.refused e) = (stays, number_outer Bare (omega arith))
  sweeps_good (calls.swept e s) = by_lanes s
    where
      counts : Good (with_waits b (counted b.views b.waits))
      counts = good_over b b.post (counted b.views b.waits) g g.sound (λ l. refl)

      by_lanes : {r : Result (Option (ℕ × ℕ)) Refusal} {c : Bank PostModel}
          → SweptLanes any_post (with_waits b (counted b.views b.waits)) r c → After b c × Outer r
      by_lanes (lanes.done through) =
          let a = through_good (with_waits b (counted b.views b.waits)) counts through (omega arith) in
          (record { good = a.good; parents = a.parents; patience = a.patience }, ok_outer _)
      by_lanes (lanes.stopped {l = l} {c = c₁} through used reads) =
          let a = through_good (with_waits b (counted b.views b.waits)) counts through (omega arith) in
          let d = (reads_good c₁ a.good l (subst (λ ps. l < lanes_of ps) (sym a.parents) used) reads).0.1 in
          absurd (grind arith)

  said_outer : {A : Type 0} (f : A → Said) (r : Result A Refusal) → Outer r → Outer (said f r)
  said_outer f (Ok a) h = ok_outer _
  said_outer f (Err w) h = λ why e. let is : w ≡ why = cc in h why (ap Err is)

  pub step_good : {k : Call} {a : Result Said Refusal} {c : Bank PostModel} → Step any_post b k a c → After b c × Outer a
  step_good (plants {r = r} s) = let d = plants_good s in (d.0, said_outer _ r d.1)
  step_good (wants {r = r} s) = let d = wants_good s in (d.0, said_outer _ r d.1)
  step_good (leaves {r = r} s) = let d = leaves_good s in (d.0, said_outer _ r d.1)
  step_good (sweeps {r = r} s) = let d = sweeps_good s in (d.0, said_outer _ r d.1)

-- the first entry
plant_none : (T : Bool) (t : Option Refusal) (busy : Bool) → cond T (elim t as (λ _. Option Refusal) [ Some why ↦ Some why | None ↦ cond busy (Some MessageWaiting) None ]) (Some AlreadyPlanted) ≡ None
    → (t ≡ None) × (busy ≡ false)
plant_none true None true e = absurd (grind arith)
plant_none true None false e = (refl, refl)
plant_none true (Some why) busy e = absurd (grind arith)
plant_none false t busy e = absurd (grind arith)

no_refusal : (o : Option Refusal) (r : Result (Unit {0}) Refusal) → ((why : Refusal) → o ≡ Some why → r ≡ Err why) → r ≡ Ok tt → o ≡ None
no_refusal None r h e = refl
no_refusal (Some why) r h e = let z = sym (h why refl) ∙ e in absurd (grind arith)

pub first_good : (b : Bank PostModel) → NewBank b → (ps : List CabinetNo) (r : Result (Unit {0}) Refusal) (c : Bank PostModel) → Plants any_post b ps r c → r ≡ Ok tt
    → Good c × (c.post.patience ≡ b.post.patience)
first_good b new ps r c s e =
    let none : plant_refusal any_post b ps ≡ None = no_refusal (plant_refusal any_post b ps) r (λ why o. (s.refused why o).0) e in
    let parts = plant_none (bare b) (tree_refusal ps) (busy_below b.post.waiting laneCount) none in
    let is = s.parents none in
    let same = s.post none in (
      planted_good c (ap tree_refusal is ∙ parts.0) (subst (λ qs. PlantedAs qs c.views) (sym is) (s.views none))
          (subst PostSound (sym same) new.sound) (λ l w. ap (λ p. p.waiting l) same ∙ idle_below b.post.waiting laneCount parts.1 l w),
      ap (λ p. p.patience) same,
    )

-- a done plant, from any step that says so
planted_by : {b : Bank PostModel} {k : Call} {a : Result Said Refusal} {c : Bank PostModel} → Step any_post b k a c → (ps : List CabinetNo) → k ≡ plant ps → a ≡ Ok planted
    → (r : Result (Unit {0}) Refusal) × (Plants any_post b ps r c × (r ≡ Ok tt))
planted_by {b} {c = c} (plants {ps = qs} {r = r} s) ps e a =
    let is : qs ≡ ps = cc in (r, (subst (λ x. Plants any_post b x r c) is s, done_of r a))
  where
    done_of : (r : Result (Unit {0}) Refusal) → said (λ _. planted) r ≡ Ok planted → r ≡ Ok tt
    done_of (Ok u) e = refl
    done_of (Err w) e = absurd (grind arith)
planted_by (wants s) ps e a = absurd (grind arith)
planted_by (leaves s) ps e a = absurd (grind arith)
planted_by (sweeps s) ps e a = absurd (grind arith)

-- after every entry
pub record_good : {es : List (Entry PostModel)} → Kept es → (e : Entry PostModel) (old : List (Entry PostModel)) → es ≡ e ∷ old → Good e.after × Outer e.answer
record_good (begun {b = b} {c = c} {ps = ps} new s) e old is =
    let p = planted_by s ps refl refl in
    let same : record { call = plant ps; answer = Ok planted; after = c } ≡ e = cc in
    subst (λ x. Good x.after × Outer x.answer) same ((first_good b new ps p.0 c p.1.0 p.1.1).0, ok_outer planted)
record_good (next {e = e₀} {es = es₀} {k = k} {a = a} {c = c} before s) e old is =
    let d = step_good e₀.after (record_good before e₀ es₀ refl).0 s in
    let same : record { call = k; answer = a; after = c } ≡ e = cc in
    subst (λ x. Good x.after × Outer x.answer) same (d.0.good, d.1)

pub exactly_one_privilege : ExactlyOnePrivilege
exactly_one_privilege e es k = (record_good k e es refl).0.one

pub no_inner_refusal : NoInnerRefusal
no_inner_refusal e es k = (record_good k e es refl).1

too_many : (h u a b : ℕ) → a + b ≤ h → a ≡ 1 → b ≡ 1 → h + u ≡ 1 → ⊥
too_many h u a b s x y o = omega arith

-- two that are in would hold two privileges
pub at_most_one_in : AtMostOneIn
at_most_one_in e es k i j hi hj =
    let g = (record_good k e es refl).0 in
    ⊎_elim (λ (s : i ≡ j). s)
    (⊎_elim (λ (s : i < j). absurd (two g i j s hi hj)) (λ (s : j < i). absurd (two g j i s hj hi))) (cases_order i j)
  where
    below : Good e.after → (x : ℕ) → (model_at e.after x).inside ≡ true → x < length e.after.parents
    below g x h =
        ⊎_elim (λ (s : x < length e.after.parents). s)
        (λ (s : length e.after.parents ≤ x). let z = sym (g.outside x s) ∙ h in absurd (grind arith)) (cases_lt x (length e.after.parents))

    holds : Good e.after → (x : ℕ) → (model_at e.after x).inside ≡ true → cond {A = ℕ} (own (model_at e.after x).holder) 1 0 ≡ 1
    holds g x h = cond-true _ _ _ ((g.kept x (below g x h)).home h)

    two : Good e.after → (x y : ℕ) → x < y → (model_at e.after x).inside ≡ true → (model_at e.after y).inside ≡ true → ⊥
    two g x y s hx hy =
        too_many (holding e.after) (under_way e.after) _ _
        (total_two (length e.after.parents) x y (λ k. cond (own (model_at e.after k).holder) 1 0) s (below g y hy)) (holds g x hx) (holds g y hy) g.one
