-- One lane is read while cabinet w waits: w owes no more sweeps than before, and less once the lane that keeps its wait going is read.
use Rattle.std.proofs.Common.{◌≡◌, ℕ, ◌+◌, ◌<◌, ◌≤◌, true, false, cond, ◌⊎◌, List, [], ◌∷◌, length, Some, None, Option, Result, sym, refl, ap, ◌∙◌, subst, inl, inr, ⊎_elim, arith}
use Rattle.std.proofs.lemmas.Bool.{cases_eq, cond-true, cond-false}
use Rattle.cable.specs.Numbers.{lanes}
use Rattle.cable.specs.declared.message.Message.{Message}
use Rattle.cable.specs.declared.message.Message.TheVariants.{Privilege as PRIVILEGE}
use Rattle.cable.specs.declared.number.CabinetNo.{CabinetNo}
use Rattle.cable.specs.declared.refusal.Refusal.{Refusal}
use Rattle.cabinet.specs.Kept.{near_by}
use Rattle.cabinet.specs.Models.{refused, stepped}
use Rattle.cabinet.specs.Parties.{times}
use Rattle.cabinet.specs.Reactions.{reaction}
use Rattle.cabinet.specs.declared.event.Event.{Event}
use Rattle.cabinet.specs.declared.event.Event.TheVariants.{Privilege}
use Rattle.cabinet.specs.declared.party.Party.TheVariants.{Own}
use Rattle.post.specs.Posts.{PostModel}
use Rattle.promise.proofs.Arriving.{Pulled, pulled, Unchanged, came_empty, not_refused, to_below, taken, welcome}
use Rattle.promise.proofs.Clocks.{Running, back, out, running_same, Rests, rests_owed, running_drops, running_on}
use Rattle.promise.proofs.Goings.{event_goes, arrival_other}
use Rattle.promise.proofs.Good.{Good, Taken, members_at}
use Rattle.promise.proofs.Measures.{Waits}
use Rattle.promise.proofs.Nets.{no}
use Rattle.promise.proofs.Orientation.{Rooted}
use Rattle.promise.proofs.Owing.{event_owed, runs_on, back_arrives, out_arrives}
use Rattle.promise.proofs.Pledges.{owed, pledge, Waiting}
use Rattle.promise.proofs.Reading.{Happened, happened, good_over, below_30}
use Rattle.promise.proofs.Stages.{world, upd, upd_here, upd_there, allow_small}
use Rattle.promise.proofs.Staying.{new_in, still_in, waited}
use Rattle.promise.specs.Banks.{Bank, any_post, with_post}
use Rattle.promise.specs.Records.{model_at}
use Rattle.promise.specs.Sweeps as sweeps
use Rattle.promise.specs.Sweeps.{Reads, arrival, nothing, brings}
use Rattle.tree.proofs.Cables.{ends_lane, lane_once}
use Rattle.tree.specs.Trees.{ordered, lane_from, lanes_of, ends_of}

-- how long the stays have lasted, before and after
pub record Lasts (b : Bank PostModel) (since : ℕ → ℕ) (c : Bank PostModel) (then : ℕ → ℕ) : Type 0 where
  pub kept : (k : ℕ) → (model_at b k).inside ≡ true → (model_at c k).inside ≡ true → then k ≡ since k
  pub fresh : (k : ℕ) → (model_at b k).inside ≡ false → (model_at c k).inside ≡ true → then k ≡ 0

module _ (ps : List CabinetNo) (grown : ordered 0 ps ≡ true) (G S w : ℕ) (r : Rooted ps w) where
  abbrev pub owes : Bank PostModel → (ℕ → ℕ) → ℕ
  owes b since = owed ps grown G S w r (world ps (model_at b) b.post since)

  abbrev pub pledged_to : Bank PostModel → (ℕ → ℕ) → ℕ → Type 0
  pledged_to b since y = pledge ps grown G S w r (world ps (model_at b) b.post since) (r.next y) ≡ 1

  -- lane l was read
  pub record ReadOn (b : Bank PostModel) (since : ℕ → ℕ) (l : ℕ) (c : Bank PostModel) : Type 0 where
    pub waits : Waits b w
    pub then : ℕ → ℕ
    pub lasts : Lasts b since c then
    pub in_stays : (k : ℕ) → (model_at b k).inside ≡ true → (model_at c k).inside ≡ true
    pub less : owes c then ≤ owes b since
    pub clock :
        (y lane : ℕ) → y < length ps → (y ≡ w → ⊥) → pledged_to b since y → Running r b.post y lane
        → (owes c then + 1 ≤ owes b since) ⊎ ((lane ≡ l → ⊥) × (pledged_to c then y × Running r c.post y lane))

head_there : {ps : List CabinetNo} {w : ℕ} (r : Rooted ps w) (p : PostModel) (y l : ℕ) → Running r p y l → p.waiting l ≡ [] → ⊥
head_there r p y l (back ms at is) e = let z = sym e ∙ is in absurd (grind arith)
head_there r p y l (out m ms at is) e = let z = sym e ∙ is in absurd (grind arith)

first_same : (m k : Message) (ms ks : List Message) → m ∷ ms ≡ k ∷ ks → m ≡ k
first_same m k ms ks e = cc

-- the pull came back empty
module _ (b : Bank PostModel) (g : Good b) (l : ℕ) (q : PostModel) (within : l < lanes) (u : Unchanged b.post l q g.sound within)
    (grown : ordered 0 b.parents ≡ true) (S w : ℕ) (r : Rooted b.parents w) (since : ℕ → ℕ) (waits : Waits b w) where
  abbrev Gₑ : ℕ
  Gₑ = b.post.patience + 1

  abbrev Fineₑ : PostModel → Type 0
  Fineₑ p = Waiting b.parents grown Gₑ S w r (world b.parents (model_at b) p since)

  fine : Fineₑ b.post
  fine = record { edges = g.edges; small = λ y z h. allow_small b.post g.sound (lane_from b.parents y z); waits = waits }

  fine' : Fineₑ q
  fine' =
      record {
        edges = (good_over b q b.waits g u.sound u.waiting).edges;
        small = λ y z h. omega (arith, allow_small q u.sound (lane_from b.parents y z), u.patience);
        waits = waits;
      }

  rests : Rests b.parents grown Gₑ S w r b.post since q since
  rests =
      record {
        lists = u.waiting;
        calm = λ k some.
            ⊎_elim
            (λ (i : k ≡ l).
            omega (arith, u.falls (λ e. some (ap b.post.waiting i ∙ e)), ap q.allowance i, ap b.post.allowance i))
            (λ (i : k ≡ l → ⊥). u.calm k i) (cases_eq k l);
        older = λ k. omega arith;
      }

  empty_read : ReadOn b.parents grown Gₑ S w r b since l (with_post b q)
  empty_read =
      record {
        waits = waits;
        then = since;
        lasts = record { kept = λ k _ _. refl; fresh = λ k a i. let z = sym a ∙ i in absurd (grind arith) };
        in_stays = λ k i. i;
        less = rests_owed b.parents grown Gₑ S w r (model_at b) b.post q since since rests fine fine';
        clock = λ y lane inside d one run.
            ⊎_elim
            (λ (i : lane ≡ l).
            inl (running_drops b.parents grown Gₑ S w r (model_at b) b.post q since since rests fine fine' y inside d one lane run
            (subst (λ k. q.allowance k < b.post.allowance k) (sym i) (u.falls (subst (λ k. b.post.waiting k ≡ [] → ⊥) i (head_there r b.post y lane run))))))
            (λ (i : lane ≡ l → ⊥). ⊎_elim (λ a. inl a) (λ a. inr (i, (a, running_same r b.post q y lane (u.waiting lane) run)))
            (running_on b.parents grown Gₑ S w r (model_at b) b.post q since since rests fine fine' y inside d one lane run)) (cases_eq lane l);
      }

-- by whether it is cabinet x
at_or_not : (x : ℕ) (P : ℕ → Type 0) → P x → ((k : ℕ) → (k ≡ x → ⊥) → P k) → (k : ℕ) → P k
at_or_not x P here there k = ⊎_elim (λ (i : k ≡ x). subst P (sym i) here) (λ (i : k ≡ x → ⊥). there k i) (cases_eq k x)

-- an event ends stays and begins them
module _ (b : Bank PostModel) (g : Good b) (p : PostModel) (x : ℕ) (small : x < length b.parents) (e : Event) (t : Taken b p x e)
    (n : refused (near_by (members_at b x)) (model_at b x) e ≡ None) (c : Bank PostModel) (h : Happened b g p x small e t n c) (since : ℕ → ℕ) where
  abbrev pub lasted : ℕ → ℕ
  lasted = upd since x (cond (reaction (model_at b x) e).entered 0 (since x))

  in_there : (model_at c x).inside ≡ true → (stepped (model_at b x) e).inside ≡ true
  in_there is = ap (λ m. m.inside) (sym h.here) ∙ is

  pub event_lasts : Lasts b since c lasted
  event_lasts =
      record {
        kept =
            at_or_not x (λ k. (model_at b k).inside ≡ true → (model_at c k).inside ≡ true → lasted k ≡ since k)
            (λ was is. upd_here since x _ ∙ cond-false _ _ _ (still_in (members_at b x) (model_at b x) (g.kept x small) e n was (in_there is)))
            (λ k d was is. upd_there since x _ k d);
        fresh =
            at_or_not x (λ k. (model_at b k).inside ≡ false → (model_at c k).inside ≡ true → lasted k ≡ 0)
            (λ was is. upd_here since x _ ∙ cond-true _ _ _ (new_in (members_at b x) (model_at b x) (g.kept x small) e n was (in_there is)))
            (λ k d was is. let z = sym was ∙ ap (λ m. m.inside) (sym (h.there k d)) ∙ is in absurd (grind arith));
      }

-- the pull gave a message, which arrived
module _ (b : Bank PostModel) (g : Good b) (l from to : ℕ) (ends : ends_of b.parents l ≡ Some (from, to)) (m : Message) (q : PostModel)
    (u : Pulled b.post l m q) (c : Bank PostModel)
    (h : Happened b g q to (to_below b g l from to ends m q u) (arrival m from) (taken b g l from to ends m q u) (welcome b g l from to ends q m u) c)
    (S w : ℕ) (r : Rooted b.parents w) (since : ℕ → ℕ) (waits_then : Waits c w) where
  abbrev e : Event
  e = arrival m from

  abbrev then_since : ℕ → ℕ
  then_since = upd since to (cond (reaction (model_at b to) e).entered 0 (since to))

  waits_now : Waits b w
  waits_now =
      ⊎_elim
      (λ (i : w ≡ to).
      subst (λ k. 0 < times Own (model_at b k).queue) (sym i)
      (waited (model_at b to) m from (subst (λ k. 0 < times Own k.queue) h.here (subst (λ k. 0 < times Own (model_at c k).queue) i waits_then))))
      (λ (i : w ≡ to → ⊥). subst (λ k. 0 < times Own k.queue) (h.there w i) waits_then) (cases_eq w to)

  stays : (k : ℕ) → (model_at b k).inside ≡ true → (model_at c k).inside ≡ true
  stays =
      at_or_not to (λ k. (model_at b k).inside ≡ true → (model_at c k).inside ≡ true)
      (λ i. ap (λ x. x.inside) h.here ∙ (event_goes (model_at b to) e (arrival_other m from)).stays i) (λ k d i. ap (λ x. x.inside) (h.there k d) ∙ i)

  lane_is : lane_from b.parents from to ≡ Some l
  lane_is = ends_lane b.parents g.grown from to l ends

  abbrev Gₐ : ℕ
  Gₐ = q.patience + 1

  abbrev Clocked : ℕ → ℕ → Type 0
  Clocked y lane =
      (owes b.parents g.grown Gₐ S w r c then_since + 1 ≤ owes b.parents g.grown Gₐ S w r b since)
      ⊎ ((lane ≡ l → ⊥) × (pledged_to b.parents g.grown Gₐ S w r c then_since y × Running r c.post y lane))

  module _ (y : ℕ) (inside : y < length b.parents) (d : y ≡ w → ⊥) (one : pledged_to b.parents g.grown Gₐ S w r b since y) where
    -- it is the very lane
    same_lane : Running r b.post y l → Clocked y l
    same_lane (back ms at is) =
        let o = lane_once b.parents y (r.next y) from to l at lane_is in
        let what : m ≡ PRIVILEGE = first_same m PRIVILEGE (q.waiting l) ms (sym u.waited ∙ is) in
        inl (back_arrives b g q to (to_below b g l from to ends m q u) e (taken b g l from to ends m q u) (welcome b g l from to ends q m u) since c.post c
        h.after.good h.posted h.here h.there h.after.parents refl S w r waits_now waits_then y l inside d one (back ms at is)
        (sym o.1) (ap (λ k. arrival k from) what ∙ ap (λ k. Privilege (no k)) (sym o.0)))
    same_lane (out k ms at is) =
        let o = lane_once b.parents (r.next y) y from to l at lane_is in
        inl (out_arrives b g q to (to_below b g l from to ends m q u) e (taken b g l from to ends m q u) (welcome b g l from to ends q m u) since c.post c
        h.after.good h.posted h.here h.there h.after.parents refl S w r waits_now waits_then y l inside d one (out k ms at is)
        (sym o.1) m (ap (arrival m) (sym o.0)))

    other_lane : (lane : ℕ) → (lane ≡ l → ⊥) → Running r b.post y lane → Clocked y lane
    other_lane lane n run =
        ⊎_elim (λ a. inl a) (λ a. inr (n, a))
        (runs_on b g q to (to_below b g l from to ends m q u) e (taken b g l from to ends m q u) (welcome b g l from to ends q m u) since c.post c
        h.after.good h.posted h.here h.there h.after.parents refl S w r waits_now waits_then y lane inside d one run
        (running_same r b.post q y lane (u.others lane n) run))

  full_read : ReadOn b.parents g.grown Gₐ S w r b since l c
  full_read =
      record {
        waits = waits_now;
        then = then_since;
        lasts =
            event_lasts b g q to (to_below b g l from to ends m q u) e (taken b g l from to ends m q u) (welcome b g l from to ends q m u) c h since;
        in_stays = stays;
        less =
            event_owed b g q to (to_below b g l from to ends m q u) e (taken b g l from to ends m q u) (welcome b g l from to ends q m u) since c.post c
            h.after.good h.posted h.here h.there h.after.parents refl S w r waits_now waits_then;
        clock = λ y lane inside d one run.
            ⊎_elim (λ (i : lane ≡ l). subst (Clocked y) (sym i) (same_lane y inside d one (subst (Running r b.post y) i run)))
            (λ (i : lane ≡ l → ⊥). other_lane y inside d one lane i run) (cases_eq lane l);
      }

-- whatever the pull gave
pub reads_on : (b : Bank PostModel) (g : Good b) (l : ℕ) → l < lanes_of b.parents → (S w : ℕ) (r : Rooted b.parents w) (since : ℕ → ℕ)
    → {res : Result (Option ℕ) Refusal} {c : Bank PostModel} → Reads any_post b l res c → Waits c w
    → ReadOn b.parents g.grown (b.post.patience + 1) S w r b since l c
reads_on b g l used S w r since (sweeps.refused {why = why} {p = q} s) h =
    absurd (not_refused b.post l q g.sound (below_30 b g l used) why s)
reads_on b g l used S w r since (nothing {p = q} s) h =
    empty_read b g l q (below_30 b g l used) (came_empty b.post l q g.sound (below_30 b g l used) s) g.grown S w r since h
reads_on b g l used S w r since (brings {m = m} {p = q} {from = from} {to = to} {c = c} s ends happens) h =
    let u = pulled b.post l q g.sound (below_30 b g l used) m s in
    let d =
    happened b g q to (to_below b g l from to ends m q u) (arrival m from) (taken b g l from to ends m q u) (welcome b g l from to ends q m u) happens
    in
    subst (λ k. ReadOn b.parents g.grown (k + 1) S w r b since l c) u.patience (full_read b g l from to ends m q u c d.1 S w r since h)
