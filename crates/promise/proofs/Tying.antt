-- What a bank does by the rules of its own post, it does by what a post means: step by step, and so over a whole record.
use Rattle.std.proofs.Common.{◌≡◌, ℕ, true, cond, List, [], ◌∷◌, map, Some, None, Ok, Option, Result, sym, refl, ap, ◌∙◌, subst}
use Rattle.cable.specs.Numbers.{lanes}
use Rattle.cable.specs.declared.message.Message.{Message}
use Rattle.cable.specs.declared.number.CabinetNo.{CabinetNo}
use Rattle.cable.specs.declared.refusal.Refusal.{Refusal}
use Rattle.cable.specs.declared.refusal.Refusal.TheVariants.{AlreadyPlanted, MessageWaiting}
use Rattle.cabinet.specs.declared.event.Event.{Event}
use Rattle.cabinet.specs.declared.event.Reaction.{Reaction}
use Rattle.post.specs.Posts.{PostModel, PostSound, Puts, Pulls}
use Rattle.promise.specs.Banks.{Transport, Bank, any_post}
use Rattle.promise.specs.Calls as calls
use Rattle.promise.specs.Calls.{Plants, bare, busy_below, plant_refusal}
use Rattle.promise.specs.Events as events
use Rattle.promise.specs.Events.{Posted, Happens}
use Rattle.promise.specs.Promise.{Kept}
use Rattle.promise.specs.Records as records
use Rattle.promise.specs.Records.{Call, Said, Entry, Step, Record}
use Rattle.promise.specs.Sweeps as sweeps
use Rattle.promise.specs.Sweeps.{Reads, Through, SweptLanes, last_in}
use Rattle.promise.specs.OverRetry.{retry_post, NewOverRetry, RecordsOverRetryAreKept}
use Rattle.promise.specs.Tie.{bank_by, entry_by, RecordsAreKept}
use Rattle.alternating.proofs.Retrying.{retry_is_a_post, retry_puts_as_a_post, retry_pulls_as_a_post}
use Rattle.alternating.proofs.OneLane.{fresh_sound}
use Rattle.alternating.specs.Lanes.{LaneSound}
use Rattle.alternating.specs.Retry.{RetrySound, post_of}
use Rattle.tree.specs.Trees.{tree_refusal}

-- a post whose own rules keep what it means
pub record Meant {P : Type 0} (means : P → PostModel) (T : Transport P) : Type 0 where
  pub sound : (p : P) → PostSound (means p)
  pub waiting : (p : P) → T.waiting p ≡ (means p).waiting
  pub puts : (p q : P) (l : ℕ) (m : Message) (r : Result (Unit {0}) Refusal) → T.puts p l m r q → Puts (means p) l m r (means q)
  pub pulls : (p q : P) (l : ℕ) (r : Result (Option Message) Refusal) → T.pulls p l r q → Pulls (means p) l r (means q)

-- one that does so while it is fit, and stays fit
pub record MeantWhile {P : Type 0} (Fit : P → Type 0) (means : P → PostModel) (T : Transport P) : Type 0 where
  pub sound : (p : P) → Fit p → PostSound (means p)
  pub waiting : (p : P) → T.waiting p ≡ (means p).waiting
  pub puts : (p q : P) (l : ℕ) (m : Message) (r : Result (Unit {0}) Refusal) → Fit p → T.puts p l m r q → Puts (means p) l m r (means q) × Fit q
  pub pulls : (p q : P) (l : ℕ) (r : Result (Option Message) Refusal) → Fit p → T.pulls p l r q → Pulls (means p) l r (means q) × Fit q

-- the post that the newest entry left is fit
abbrev Held : {P : Type 0} → (P → Type 0) → List (Entry P) → Type 0
Held Fit [] = Unit {0}
Held Fit (e ∷ es) = Fit e.after.post

module _ {P : Type 0} (Fit : P → Type 0) (means : P → PostModel) (T : Transport P) (meant : MeantWhile Fit means T) where
  posted : {ps : List CabinetNo} {x : ℕ} {p q : P} {msgs : List (CabinetNo × Message)} {r : Result (Unit {0}) Refusal} → Fit p → Posted T ps x p msgs r q
      → Posted any_post ps x (means p) msgs r (means q) × Fit q
  posted f events.all = (events.all, f)
  posted f (events.then at put rest) =
      let a = meant.puts _ _ _ _ _ f put in
      let b = posted a.1 rest in
      (events.then at a.0 b.0, b.1)
  posted f (events.refused at put) = let a = meant.puts _ _ _ _ _ f put in (events.refused at a.0, a.1)
  posted f (events.no_lane at) = (events.no_lane at, f)

  happened : {b : Bank P} {x : ℕ} {e : Event} {r : Result Reaction Refusal} {c : Bank P} → Fit b.post → Happens T b x e r c
      → Happens any_post (bank_by means b) x e r (bank_by means c) × Fit c.post
  happened f (events.refused is) = (events.refused is, f)
  happened f (events.done is sent) = let a = posted f sent in (events.done is a.0, a.1)
  happened f (events.stopped is sent) = let a = posted f sent in (events.stopped is a.0, a.1)

  read : {b : Bank P} {l : ℕ} {r : Result (Option ℕ) Refusal} {c : Bank P} → Fit b.post → Reads T b l r c
      → Reads any_post (bank_by means b) l r (bank_by means c) × Fit c.post
  read f (sweeps.refused pull) = let a = meant.pulls _ _ _ _ f pull in (sweeps.refused a.0, a.1)
  read f (sweeps.nothing pull) = let a = meant.pulls _ _ _ _ f pull in (sweeps.nothing a.0, a.1)
  read f (sweeps.brings pull ends event) =
      let a = meant.pulls _ _ _ _ f pull in
      let h = happened a.1 event in
      (sweeps.brings a.0 ends h.0, h.1)

  through : {b : Bank P} {l : ℕ} {last : Option ℕ} {c : Bank P} → Fit b.post → Through T b l last c
      → Through any_post (bank_by means b) l last (bank_by means c) × Fit c.post
  through f sweeps.begun = (sweeps.begun, f)
  through f (sweeps.further before lane) =
      let a = through f before in
      let b = read a.1 lane in
      (sweeps.further a.0 b.0, b.1)

  last_same : (last : Option ℕ) (c : Bank P) → last_in last (bank_by means c) ≡ last_in last c
  last_same None c = refl
  last_same (Some x) c = refl

  lanes_swept : {b : Bank P} {r : Result (Option (ℕ × ℕ)) Refusal} {c : Bank P} → Fit b.post → SweptLanes T b r c
      → SweptLanes any_post (bank_by means b) r (bank_by means c) × Fit c.post
  lanes_swept {b} {r} {c} f (sweeps.done {last = last} all) =
      let a = through f all in
      (subst (λ o. SweptLanes any_post (bank_by means b) (Ok o) (bank_by means c)) (last_same last c) (sweeps.done a.0), a.1)
  lanes_swept f (sweeps.stopped before below lane) =
      let a = through f before in
      let b = read a.1 lane in
      (sweeps.stopped a.0 below b.0, b.1)

  plant_same : (b : Bank P) (ps : List CabinetNo) → plant_refusal any_post (bank_by means b) ps ≡ plant_refusal T b ps
  plant_same b ps =
      ap
      (λ w. cond (bare b)
      (elim (tree_refusal ps) as (λ _. Option Refusal) [ Some why ↦ Some why | None ↦ cond (busy_below w lanes) (Some MessageWaiting) None ])
      (Some AlreadyPlanted)) (sym (meant.waiting b.post))

  planted : {b c : Bank P} {ps : List CabinetNo} {r : Result (Unit {0}) Refusal} → Plants T b ps r c
      → Plants any_post (bank_by means b) ps r (bank_by means c)
  planted {b} {c} {ps} s =
      let same = sym (plant_same b ps) in
      record {
        refused = λ why e. let no = s.refused why (same ∙ e) in (no.0, ap (bank_by means) no.1);
        done = λ e. s.done (same ∙ e);
        parents = λ e. s.parents (same ∙ e);
        views = λ e. s.views (same ∙ e);
        waits = λ e. s.waits (same ∙ e);
        post = λ e. ap means (s.post (same ∙ e));
      }

  planted_fit : (b c : Bank P) (ps : List CabinetNo) (r : Result (Unit {0}) Refusal) → Fit b.post → Plants T b ps r c → (o : Option Refusal)
      → plant_refusal T b ps ≡ o → Fit c.post
  planted_fit b c ps r f s None e = subst Fit (sym (s.post e)) f
  planted_fit b c ps r f s (Some why) e = subst (λ (x : Bank P). Fit x.post) (sym (s.refused why e).1) f

  step : {b : Bank P} {k : Call} {a : Result Said Refusal} {c : Bank P} → Fit b.post → Step T b k a c
      → Step any_post (bank_by means b) k a (bank_by means c) × Fit c.post
  step {b} f (records.plants {ps = ps} {r = r} {c = c} s) = (records.plants (planted s), planted_fit b c ps r f s (plant_refusal T b ps) refl)
  step f (records.wants (calls.refused is)) = (records.wants (calls.refused is), f)
  step f (records.wants (calls.done ready event)) = let h = happened f event in (records.wants (calls.done ready h.0), h.1)
  step f (records.wants (calls.inside ready event)) = let h = happened f event in (records.wants (calls.inside ready h.0), h.1)
  step f (records.leaves (calls.refused is)) = (records.leaves (calls.refused is), f)
  step f (records.leaves (calls.done ready event)) = let h = happened f event in (records.leaves (calls.done ready h.0), h.1)
  step f (records.leaves (calls.inside ready event)) = let h = happened f event in (records.leaves (calls.inside ready h.0), h.1)
  step f (records.sweeps (calls.refused is)) = (records.sweeps (calls.refused is), f)
  step f (records.sweeps (calls.swept ready all)) = let h = lanes_swept f all in (records.sweeps (calls.swept ready h.0), h.1)

  module _ (New : Bank P → Type 0) (new : (b : Bank P) → New b → (bare b ≡ true) × Fit b.post) where
    kept : {es : List (Entry P)} → Record T New es → Kept (map (entry_by means) es) × Held Fit es
    kept (records.begun {b = b} n s) =
        let m = new b n in
        let t = step m.1 s in
        (records.begun (record { bare = m.0; sound = meant.sound b.post m.1 }) t.0, t.1)
    kept (records.next before s) =
        let k = kept before in
        let t = step k.1 s in
        (records.next k.0 t.0, t.1)

    pub kept_while_fit : (es : List (Entry P)) → Record T New es → Kept (map (entry_by means) es)
    kept_while_fit es r = (kept r).0

pub records_are_kept : {P : Type 0} (means : P → PostModel) (T : Transport P) → Meant means T → RecordsAreKept means T
records_are_kept {P} means T meant =
    kept_while_fit (λ (p : P). Unit {0}) means T
    (record {
      sound = λ p _. meant.sound p;
      waiting = meant.waiting;
      puts = λ p q l m r _ s. (meant.puts p q l m r s, tt);
      pulls = λ p q l r _ s. (meant.pulls p q l r s, tt);
    })
    (λ (b : Bank P). bare b ≡ true) (λ b n. (n, tt))

pub records_over_retry_are_kept : RecordsOverRetryAreKept
records_over_retry_are_kept =
    kept_while_fit RetrySound post_of retry_post
    (record {
      sound = retry_is_a_post;
      waiting = λ s. refl;
      puts = λ s t l x r f p. retry_puts_as_a_post s t l x r f p;
      pulls = λ s t l r f p. retry_pulls_as_a_post s t l r f p;
    })
    NewOverRetry
    (λ b n. (
      n.bare,
      record { wiring = n.wiring; lane = λ l. subst LaneSound (sym (n.lanes l)) fresh_sound },
    ))
