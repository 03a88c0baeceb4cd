-- Who waits goes on waiting until it is in, and who is in stays in until it leaves.
use Rattle.std.proofs.Common.{◌≡◌, ℕ, ◌<◌, ◌≤◌, Bool, true, false, cond, not, ◌&&◌, ltb, ◌⊎◌, List, [], ◌∷◌, length, get_or, set, Some, None, Ok, Err, Option, Result, sym, refl, ap, ◌∙◌, subst, inl, inr, ⊎_elim, arith}
use Rattle.std.proofs.lemmas.List.{get_or-set_same, get_or-set_other}
use Rattle.std.proofs.lemmas.Bool.{cases_Bool, cases_eq, cases_lt, cond-true, cond-false, ltb-true}
use Rattle.std.proofs.lemmas.Bool.Decides.{nat_tests}
use Rattle.cable.specs.Rows.{oldest, rest}
use Rattle.cable.specs.declared.message.Message.{Message}
use Rattle.cable.specs.declared.message.Message.TheVariants.{Request as REQUEST, Privilege as PRIVILEGE}
use Rattle.cable.specs.declared.number.CabinetNo.{CabinetNo}
use Rattle.cable.specs.declared.refusal.Refusal.{Refusal}
use Rattle.cable.specs.declared.refusal.Refusal.TheVariants.{AlreadyPlanted, NoSuchCabinet}
use Rattle.cabinet.proofs.Keeping.{times-push}
use Rattle.cabinet.proofs.LawsHold.{own_is}
use Rattle.cabinet.specs.Kept as cabinet
use Rattle.cabinet.specs.Kept.{near_by}
use Rattle.cabinet.specs.Models.{Model, refused, acted, given, assigned, asking, stepped}
use Rattle.cabinet.specs.Parties.{own, times}
use Rattle.cabinet.specs.Reactions.{reaction}
use Rattle.cabinet.specs.Tables.{blank, after, answer_at, after_at}
use Rattle.cabinet.specs.declared.event.Event.{Event}
use Rattle.cabinet.specs.declared.event.Event.TheVariants.{Want, Leave, Request, Privilege}
use Rattle.cabinet.specs.declared.event.Reaction.{Reaction}
use Rattle.cabinet.specs.declared.party.Party.{Party}
use Rattle.cabinet.specs.declared.party.Party.TheVariants.{Own, Neighbour}
use Rattle.post.specs.Posts.{PostModel}
use Rattle.promise.proofs.Good.{Good, members_at}
use Rattle.promise.proofs.Measures.{Waits}
use Rattle.promise.proofs.Reading.{good_over, through_good}
use Rattle.promise.specs.Banks.{Bank, any_post, with_post, with_waits}
use Rattle.promise.specs.Calls as calls
use Rattle.promise.specs.Calls.{Plants, Wants, Leaves, Sweeps, bare, call_refusal}
use Rattle.promise.specs.Events as events
use Rattle.promise.specs.Events.{Happens}
use Rattle.promise.specs.Records as records
use Rattle.promise.specs.Records.{Call, plant, want, leave, sweep, Said, planted, wanted, left, said, Step, model_at}
use Rattle.promise.specs.Sweeps as lanes
use Rattle.promise.specs.Sweeps.{Reads, Through, SweptLanes, arrival, counted}
use Rattle.tree.specs.Trees.{lanes_of}

abbrev pub Waiting : Model → Type 0
Waiting m = 0 < times Own m.queue

abbrev pub In : Model → Type 0
In m = m.inside ≡ true

-- from one record of a cabinet to a later one, while it does not leave
pub record Goes (m n : Model) : Type 0 where
  pub stays : In m → In n
  pub waits : Waiting m → Waiting n ⊎ In n

goes_same : (m n : Model) → n ≡ m → Goes m n
goes_same m n e = record { stays = λ i. ap (λ k. k.inside) e ∙ i; waits = λ w. inl (subst Waiting (sym e) w) }

goes_then : (l m n : Model) → Goes l m → Goes m n → Goes l n
goes_then l m n g h = record { stays = λ i. h.stays (g.stays i); waits = λ w. ⊎_elim h.waits (λ i. inr (h.stays i)) (g.waits w) }

-- who is served first, if anybody is
module _ (m : Model) where
  given_waits : (t : Bool) (q : List Party) → m.queue ≡ q → Waiting m → Waiting (given (cond t (oldest q) None) m) ⊎ In (given (cond t (oldest q) None) m)
  given_waits false q e w = inl w
  given_waits true [] e w = inl w
  given_waits true (Own ∷ q) e w = inr refl
  given_waits true (Neighbour v ∷ q) e w = inl (omega (arith, ap (times Own) e, ap (λ l. times Own (rest l)) e))

  given_out : (t : Bool) (q : List Party) → times Own q ≡ 0 → m.inside ≡ false → (given (cond t (oldest q) None) m).inside ≡ false
  given_out false q none i = i
  given_out true [] none i = i
  given_out true (Own ∷ q) none i = absurd (omega arith)
  given_out true (Neighbour v ∷ q) none i = refl

  assign_goes : Goes m (assigned m)
  assign_goes =
      record {
        stays = λ i. let z : own m.holder && not m.inside ≡ false = grind arith in ap (λ t. (given (cond t (oldest m.queue) None) m).inside) z ∙ i;
        waits = given_waits (own m.holder && not m.inside) m.queue refl;
      }

  act_goes : (e : Event) → (e ≡ Leave → ⊥) → Goes m (acted m e)
  act_goes Want d = record { stays = λ i. i; waits = λ w. inl (omega (arith, times-push m.queue Own Own)) }
  act_goes Leave d = absurd (d refl)
  act_goes (Request u) d = record { stays = λ i. i; waits = λ w. inl (omega (arith, times-push m.queue (Neighbour u) Own)) }
  act_goes (Privilege u) d = record { stays = λ i. i; waits = λ w. inl w }

settle_goes : (m : Model) → Goes m (asking (assigned m))
settle_goes m = goes_then m (assigned m) (asking (assigned m)) (assign_goes m) (record { stays = λ i. i; waits = inl })

-- over an event other than a leave
pub event_goes : (m : Model) (e : Event) → (e ≡ Leave → ⊥) → Goes m (stepped m e)
event_goes m e d = goes_then m (acted m e) (stepped m e) (act_goes m e d) (settle_goes (acted m e))

want_goes : (near : CabinetNo → Bool) (m : Model) → refused near m Want ≡ None → (m.inside ≡ false) × (Waiting (stepped m Want) ⊎ In (stepped m Want))
want_goes near m n = (grind (arith, nat_tests), (settle_goes (acted m Want)).waits (omega (arith, times-push m.queue Own Own)))

-- who is in does not wait
pub in_waits : (bs : List Bool) (m : Model) → cabinet.Kept bs m → In m → times Own m.queue ≡ 0
in_waits bs m k i = ap (λ p. times p m.queue) (sym (own_is m.holder (k.home i))) ∙ k.apart

leave_goes : (bs : List Bool) (m : Model) → cabinet.Kept bs m → refused (near_by bs) m Leave ≡ None → (Waiting m → ⊥) × ((stepped m Leave).inside ≡ false)
leave_goes bs m k n =
    let i : In m = grind (arith, nat_tests) in
    let none = in_waits bs m k i in
    (λ w. omega arith, given_out (acted m Leave) (own m.holder && true) m.queue none refl)

pub waits_out : (b : Bank PostModel) → Good b → (n : ℕ) → Waits b n → (model_at b n).inside ≡ false
waits_out b g n w =
    ⊎_elim
    (λ (i : In (model_at b n)). ⊎_elim (λ (s : n < length b.parents). absurd (omega (arith, in_waits (members_at b n) (model_at b n) (g.kept n s) i)))
    (λ (s : length b.parents ≤ n). g.outside n s) (cases_lt n (length b.parents)))
    (λ (i : (model_at b n).inside ≡ false). i) (cases_Bool (model_at b n).inside)

-- what an event that a cabinet does not refuse makes of the cabinets
pub record Changed (b c : Bank PostModel) (x : ℕ) (e : Event) : Type 0 where
  pub free : refused (near_by (members_at b x)) (model_at b x) e ≡ None
  pub here : model_at c x ≡ stepped (model_at b x) e
  pub there : (k : ℕ) → (k ≡ x → ⊥) → model_at c k ≡ model_at b k

answer_ok : (t : Bool) (o : Option Refusal) (r a : Reaction)
    → cond t (elim o as (λ _. Result Reaction Refusal) [ None ↦ Ok r | Some why ↦ Err why ]) (Err NoSuchCabinet) ≡ Ok a
    → (t ≡ true) × (o ≡ None)
answer_ok true None r a e = (refl, refl)
answer_ok true (Some why) r a e = absurd (grind arith)
answer_ok false o r a e = absurd (grind arith)

module _ (b : Bank PostModel) (all : length b.views ≡ 16) (x : ℕ) (e : Event) where
  written : (a : Reaction) → answer_at b.views x e ≡ Ok a → (ws : List ℕ) (p : PostModel)
      → Changed b (record { parents = b.parents; views = after_at b.views x e; waits = ws; post = p }) x e
  written a eq ws p =
      let ok = answer_ok (ltb x 16) (refused (near_by (members_at b x)) (model_at b x) e) (reaction (model_at b x) e) a eq in
      let is : after_at b.views x e ≡ set b.views x (after (get_or b.views x blank) e) = cond-true _ _ _ ok.0 in
      record {
        free = ok.1;
        here =
            ap (λ vs. (get_or vs x blank).model) is ∙ ap (λ v. v.model) (get_or-set_same b.views x _ blank (omega (arith, ltb-true x 16 ok.0)))
            ∙ ap (λ o. elim o as (λ _. Model) [ None ↦ stepped (model_at b x) e | Some why ↦ model_at b x ]) ok.1;
        there = λ k d. ap (λ vs. (get_or vs k blank).model) is ∙ ap (λ v. v.model) (get_or-set_other b.views x k _ blank d);
      }

  -- refused, or done as far as the cabinets go, even if the post then refuses what is sent
  pub changed : {r : Result Reaction Refusal} {c : Bank PostModel} → Happens any_post b x e r c
      → (((why : Refusal) × (r ≡ Err why)) × (c ≡ b)) ⊎ Changed b c x e
  changed (events.refused {why = why} eq) = inl ((why, refl), refl)
  changed (events.done {a = a} {p = p} eq posted) = inr (written a eq b.waits p)
  changed (events.stopped {a = a} {p = p} eq posted) = inr (written a eq b.waits p)

  happens_goes : (e ≡ Leave → ⊥) → {r : Result Reaction Refusal} {c : Bank PostModel} → Happens any_post b x e r c → (k : ℕ) → Goes (model_at b k) (model_at c k)
  happens_goes d {c = c} h k =
      ⊎_elim (λ s. goes_same _ _ (ap (λ v. model_at v k) s.1))
      (λ (s : Changed b c x e). ⊎_elim
      (λ (i : k ≡ x). subst (λ j. Goes (model_at b j) (model_at c j)) (sym i) (subst (Goes (model_at b x)) (sym s.here) (event_goes (model_at b x) e d)))
      (λ (i : k ≡ x → ⊥). goes_same _ _ (s.there k i)) (cases_eq k x)) (changed h)

pub arrival_other : (m : Message) (from : ℕ) → arrival m from ≡ Leave → ⊥
arrival_other REQUEST from e = absurd (grind arith)
arrival_other PRIVILEGE from e = absurd (grind arith)

-- one lane is read
reads_goes : (b : Bank PostModel) → length b.views ≡ 16 → {l : ℕ} {r : Result (Option ℕ) Refusal} {c : Bank PostModel} → Reads any_post b l r c
    → (k : ℕ) → Goes (model_at b k) (model_at c k)
reads_goes b all (lanes.refused s) k = goes_same _ _ refl
reads_goes b all (lanes.nothing s) k = goes_same _ _ refl
reads_goes b all (lanes.brings {m = m} {p = p} {from = from} {to = to} s ends h) k = happens_goes (with_post b p) all to (arrival m from) (arrival_other m from) h k

through_goes : (b : Bank PostModel) → Good b → {l : ℕ} {last : Option ℕ} {c : Bank PostModel} → Through any_post b l last c → l ≤ lanes_of b.parents
    → (k : ℕ) → Goes (model_at b k) (model_at c k)
through_goes b g lanes.begun h k = goes_same _ _ refl
through_goes b g (lanes.further {c = c} {d = d} before now) h k =
    goes_then _ (model_at c k) _ (through_goes b g before (omega arith) k) (reads_goes c (through_good b g before (omega arith)).good.all now k)

-- what one entry does to a cabinet that waits, that leaves, or that wants
pub record Onward (b : Bank PostModel) (k : Call) (a : Result Said Refusal) (c : Bank PostModel) : Type 0 where
  pub waits : (n : ℕ) → Waits b n → Waits c n ⊎ In (model_at c n)
  pub enters : (n : ℕ) → Waits b n → In (model_at c n) → k ≡ sweep
  pub leaves : (n : ℕ) → k ≡ leave n → a ≡ Ok left → (model_at c n).inside ≡ false
  pub wants : (n : ℕ) (entered : Bool) → k ≡ want n → a ≡ Ok (wanted entered)
      → (n < length b.parents) × ((model_at b n).inside ≡ false) × (Waits c n ⊎ In (model_at c n))

not_bare : (ps : List CabinetNo) → 1 ≤ length ps → elim ps as (λ _. Bool) [ [] ↦ true | q ∷ qs ↦ false ] ≡ false
not_bare [] h = absurd (omega arith)
not_bare (q ∷ qs) h = refl

pub planted_already : (b : Bank PostModel) → Good b → bare b ≡ false
planted_already b g = not_bare b.parents g.some

pub call_small : (b : Bank PostModel) (n : ℕ) → call_refusal b n ≡ None → n < length b.parents
call_small b n e = grind (arith, nat_tests)

-- a planted bank is not planted again
pub plants_nothing : (b : Bank PostModel) → Good b → {ps : List CabinetNo} {r : Result (Unit {0}) Refusal} {c : Bank PostModel} → Plants any_post b ps r c
    → (r ≡ Err AlreadyPlanted) × (c ≡ b)
plants_nothing b g s = s.refused AlreadyPlanted (cond-false _ _ _ (planted_already b g))

module _ (b : Bank PostModel) (g : Good b) where
  -- no call to one cabinet lets a cabinet in that waits
  out_still : (n : ℕ) → Waits b n → In (model_at b n) → ⊥
  out_still n w i = let z = sym (waits_out b g n w) ∙ i in absurd (grind arith)

  out_after : (x : ℕ) (e : Event) → (refused (near_by (members_at b x)) (model_at b x) e ≡ None → Waits b x → ⊥) → {r : Result Reaction Refusal} {c : Bank PostModel}
      → Happens any_post b x e r c → (n : ℕ) → Waits b n → In (model_at c n) → ⊥
  out_after x e d {c = c} h n w i =
      ⊎_elim (λ s. out_still n w (subst (λ v. In (model_at v n)) s.1 i))
      (λ (s : Changed b c x e). ⊎_elim (λ (j : n ≡ x). d s.free (subst (Waits b) j w))
      (λ (j : n ≡ x → ⊥). out_still n w (subst In (s.there n j) i)) (cases_eq n x)) (changed b g.all x e h)

  want_refused : (x : ℕ) → refused (near_by (members_at b x)) (model_at b x) Want ≡ None → Waits b x → ⊥
  want_refused x n w = grind (arith, nat_tests)

  leave_refused : (x : ℕ) → refused (near_by (members_at b x)) (model_at b x) Leave ≡ None → Waits b x → ⊥
  leave_refused x n w = let i : In (model_at b x) = grind (arith, nat_tests) in out_still x w i

  refused_on : {k : Call} {why : Refusal} {c : Bank PostModel} → ((n : ℕ) → Waits b n → Waits c n ⊎ In (model_at c n)) → ((n : ℕ) → Waits b n → In (model_at c n) → ⊥)
      → Onward b k (Err why) c
  refused_on h out =
      record { waits = h; enters = λ n w i. absurd (out n w i); leaves = λ n k a. absurd (grind arith); wants = λ n entered k a. absurd (grind arith) }

  same_on : {k : Call} {why : Refusal} → Onward b k (Err why) b
  same_on = refused_on (λ n. inl) out_still

  plants_on : {ps : List CabinetNo} {r : Result (Unit {0}) Refusal} {c : Bank PostModel} → Plants any_post b ps r c → Onward b (plant ps) (said (λ _. planted) r) c
  plants_on {ps} {r} s =
      let d = plants_nothing b g s in
      subst (Onward b (plant ps) (said (λ _. planted) r)) (sym d.1)
      (subst (λ a. Onward b (plant ps) (said (λ _. planted) a) b) (sym d.0) same_on)

  wants_on : {n : ℕ} {r : Result Bool Refusal} {c : Bank PostModel} → Wants any_post b n r c → Onward b (want n) (said wanted r) c
  wants_on (calls.refused e) = same_on
  wants_on {n} (calls.inside e h) = refused_on (λ k. (happens_goes b g.all n Want (λ i. absurd (grind arith)) h k).waits) (out_after n Want (want_refused n) h)
  wants_on {n} (calls.done {c = c} e h) =
      record {
        waits = λ k. (happens_goes b g.all n Want (λ i. absurd (grind arith)) h k).waits;
        enters = λ k w i. absurd (out_after n Want (want_refused n) h k w i);
        leaves = λ k i. absurd (grind arith);
        wants = λ k entered i a.
            subst (λ j. (j < length b.parents) × ((model_at b j).inside ≡ false) × (Waits c j ⊎ In (model_at c j))) (let is : n ≡ k = cc in is)
            (⊎_elim (λ s. let z = s.0.1 in absurd (grind arith))
            (λ (s : Changed b c n Want).
            let w = want_goes (near_by (members_at b n)) (model_at b n) s.free in
            (call_small b n e, w.0, subst (λ m. Waiting m ⊎ In m) (sym s.here) w.1)) (changed b g.all n Want h));
      }

  module _ (n : ℕ) (small : n < length b.parents) {r : Result Reaction Refusal} {c : Bank PostModel} (h : Happens any_post b n Leave r c) where
    leave_waits : (k : ℕ) → Waits b k → Waits c k ⊎ In (model_at c k)
    leave_waits k w =
        ⊎_elim (λ s. inl (subst (λ d. Waits d k) (sym s.1) w))
        (λ (s : Changed b c n Leave). ⊎_elim
        (λ (i : k ≡ n). absurd ((leave_goes (members_at b n) (model_at b n) (g.kept n small) s.free).0 (subst (Waits b) i w)))
        (λ (i : k ≡ n → ⊥). inl (subst Waiting (sym (s.there k i)) w)) (cases_eq k n)) (changed b g.all n Leave h)

    leave_out : (a : Reaction) → r ≡ Ok a → (model_at c n).inside ≡ false
    leave_out a e =
        ⊎_elim (λ s. let z = sym s.0.1 ∙ e in absurd (grind arith))
        (λ (s : Changed b c n Leave).
        ap (λ m. m.inside) s.here ∙ (leave_goes (members_at b n) (model_at b n) (g.kept n small) s.free).1) (changed b g.all n Leave h)

  leaves_on : {n : ℕ} {r : Result (Unit {0}) Refusal} {c : Bank PostModel} → Leaves any_post b n r c → Onward b (leave n) (said (λ _. left) r) c
  leaves_on (calls.refused e) = same_on
  leaves_on {n} (calls.inside e h) = refused_on (leave_waits n (call_small b n e) h) (out_after n Leave (leave_refused n) h)
  leaves_on {n} (calls.done {a = a} {c = c} e h) =
      record {
        waits = leave_waits n (call_small b n e) h;
        enters = λ k w i. absurd (out_after n Leave (leave_refused n) h k w i);
        leaves = λ k i _. subst (λ j. (model_at c j).inside ≡ false) (let is : n ≡ k = cc in is) (leave_out n (call_small b n e) h a refl);
        wants = λ k entered i. absurd (grind arith);
      }

  sweeps_on : {r : Result (Option (ℕ × ℕ)) Refusal} {c : Bank PostModel} → Sweeps any_post b r c → (n : ℕ) → Goes (model_at b n) (model_at c n)
  sweeps_on (calls.refused e) n = goes_same _ _ refl
  sweeps_on (calls.swept e s) n = by_lanes s
    where
      counting : Good (with_waits b (counted b.views b.waits))
      counting = good_over b b.post (counted b.views b.waits) g g.sound (λ l. refl)

      by_lanes : {r : Result (Option (ℕ × ℕ)) Refusal} {c : Bank PostModel} → SweptLanes any_post (with_waits b (counted b.views b.waits)) r c
          → Goes (model_at b n) (model_at c n)
      by_lanes (lanes.done through) = through_goes _ counting through (omega arith) n
      by_lanes (lanes.stopped {c = c} through used now) =
          goes_then _ (model_at c n) _ (through_goes _ counting through (omega arith) n)
          (reads_goes c (through_good _ counting through (omega arith)).good.all now n)

  pub step_on : {k : Call} {a : Result Said Refusal} {c : Bank PostModel} → Step any_post b k a c → Onward b k a c
  step_on (records.plants s) = plants_on s
  step_on (records.wants s) = wants_on s
  step_on (records.leaves s) = leaves_on s
  step_on (records.sweeps s) = record { waits = λ n. (sweeps_on s n).waits; enters = λ n w i. refl; leaves = λ n k. absurd (grind arith); wants = λ n entered k. absurd (grind arith) }
