-- While cabinet w waits, no entry makes it owe more sweeps, and each sweep lowers what it owes: the measure of its wait.
use Rattle.std.proofs.Common.{◌≡◌, ℕ, ◌+◌, ◌<◌, ◌≤◌, true, false, ◌⊎◌, List, length, Option, Result, sym, refl, ap, ◌∙◌, subst, inl, inr, ⊎_elim, arith}
use Rattle.std.proofs.lemmas.Bool.{cases_Bool}
use Rattle.cable.specs.declared.number.CabinetNo.{CabinetNo}
use Rattle.cable.specs.declared.refusal.Refusal.{Refusal}
use Rattle.post.specs.Posts.{PostModel}
use Rattle.promise.proofs.Clocks.{Running, back, out, Rests, rests_owed, running_on, stay_drops, Clock, stays, runs, clock}
use Rattle.promise.proofs.EventGood.{lane_below}
use Rattle.promise.proofs.Good.{Good, on, members_at}
use Rattle.promise.proofs.Measures.{Waits}
use Rattle.promise.proofs.Nets.{InOrder}
use Rattle.promise.proofs.Orientation.{Rooted}
use Rattle.promise.proofs.Pledges.{Waiting}
use Rattle.promise.proofs.Reading.{After, through_good}
use Rattle.promise.proofs.Stages.{world, allow_small}
use Rattle.promise.proofs.Sweeping.{Lasts, owes, pledged_to, ReadOn, reads_on}
use Rattle.promise.specs.Banks.{Bank, any_post}
use Rattle.promise.specs.Records.{model_at}
use Rattle.promise.specs.Sweeps.{Reads, Through, begun, further}
use Rattle.tree.specs.Trees.{ordered, neighbours, lane_from, lanes_of}

module _ (ps : List CabinetNo) (grown : ordered 0 ps ≡ true) (G S w : ℕ) (r : Rooted ps w) where
  -- a good bank with this tree and this patience
  pub record At (b : Bank PostModel) : Type 0 where
    pub good : Good b
    pub parents : b.parents ≡ ps
    pub patience : b.post.patience + 1 ≡ G

  abbrev Fine : Bank PostModel → (ℕ → ℕ) → Type 0
  Fine b since = Waiting ps grown G S w r (world ps (model_at b) b.post since)

  pub fine_at : (b : Bank PostModel) → At b → (since : ℕ → ℕ) → Waits b w → Fine b since
  fine_at b a since waits =
      record {
        edges =
            subst (λ qs. InOrder (λ x y. neighbours qs x y ≡ true) (record { cab = model_at b; lane = λ x y. on b.post (lane_from qs x y) })) a.parents
            a.good.edges;
        small = λ y z h. omega (arith, allow_small b.post a.good.sound (lane_from ps y z), a.patience);
        waits = waits;
      }

  pub clock_at : (b : Bank PostModel) → At b → (since : ℕ → ℕ) → Waits b w → w < length ps → Clock ps grown G S w r (model_at b) b.post since
  clock_at b a since waits l =
      clock ps grown G S w r (model_at b) b.post since (fine_at b a since waits) (members_at b)
      (λ y s. a.good.kept y (omega (arith, s, ap length a.parents)))
      (λ y n s. a.good.members y n (omega (arith, s, ap length a.parents, a.good.few)) ∙ ap (λ qs. neighbours qs y n) a.parents) l

  -- reading a lane, for this tree and patience
  again : (b c : Bank PostModel) (since : ℕ → ℕ) (l F : ℕ) (qs : List CabinetNo) (g h : ordered 0 qs ≡ true) (k : Rooted qs w) → ReadOn qs g F S w k b since l c
      → ReadOn qs h F S w k b since l c
  again b c since l F qs g h k x =
      record { waits = x.waits; then = x.then; lasts = x.lasts; in_stays = x.in_stays; less = x.less; clock = x.clock }

  reads_at : (b : Bank PostModel) → At b → (l : ℕ) → l < lanes_of ps → (since : ℕ → ℕ) → {res : Result (Option ℕ) Refusal} {c : Bank PostModel}
      → Reads any_post b l res c → Waits c w → ReadOn ps grown G S w r b since l c
  reads_at b a l used since {c = c} reads waits =
      subst (λ F. ReadOn ps grown F S w r b since l c) a.patience
      (subst (λ qs. (gr : ordered 0 qs ≡ true) (k : Rooted qs w) → ReadOn qs gr (b.post.patience + 1) S w k b since l c) a.parents
      (λ gr k. again b c since l (b.post.patience + 1) b.parents a.good.grown gr k
      (reads_on b a.good l (subst (λ qs. l < lanes_of qs) (sym a.parents) used) S w k since reads waits))
      grown r)

  stays_at : (b c : Bank PostModel) → At b → After b c → At c
  stays_at b c a d =
      record { good = d.good; parents = d.parents ∙ a.parents; patience = ap (λ k. k + 1) d.patience ∙ a.patience }

  -- the lanes below l were read
  pub record PartSwept (b : Bank PostModel) (since : ℕ → ℕ) (l : ℕ) (c : Bank PostModel) : Type 0 where
    pub at : At c
    pub then : ℕ → ℕ
    pub lasts : Lasts b since c then
    pub in_stays : (k : ℕ) → (model_at b k).inside ≡ true → (model_at c k).inside ≡ true
    pub less : owes ps grown G S w r c then ≤ owes ps grown G S w r b since
    pub clock :
        (y lane : ℕ) → y < length ps → (y ≡ w → ⊥) → pledged_to ps grown G S w r b since y → Running r b.post y lane
        → (owes ps grown G S w r c then + 1 ≤ owes ps grown G S w r b since) ⊎ ((l ≤ lane) × (pledged_to ps grown G S w r c then y × Running r c.post y lane))

  lasts_on : (b c d : Bank PostModel) (since mid then : ℕ → ℕ) → ((k : ℕ) → (model_at b k).inside ≡ true → (model_at c k).inside ≡ true) → Lasts b since c mid → Lasts c mid d then
      → Lasts b since d then
  lasts_on b c d since mid then stay p q =
      record {
        kept = λ k i j. q.kept k (stay k i) j ∙ p.kept k i (stay k i);
        fresh = λ k i j.
            ⊎_elim (λ (m : (model_at c k).inside ≡ true). q.kept k m j ∙ p.fresh k i m)
            (λ (m : (model_at c k).inside ≡ false). q.fresh k m j) (cases_Bool (model_at c k).inside);
      }

  at_through : (b : Bank PostModel) → At b → {l : ℕ} {last : Option ℕ} {c : Bank PostModel} → Through any_post b l last c → l ≤ lanes_of ps → At c
  at_through b a {l} {c = c} t used =
      stays_at b c a (through_good b a.good t (subst (λ qs. l ≤ lanes_of qs) (sym a.parents) used))

  pub through_on : (b : Bank PostModel) → At b → (since : ℕ → ℕ) → {l : ℕ} {last : Option ℕ} {c : Bank PostModel} → Through any_post b l last c → l ≤ lanes_of ps → Waits c w
      → Waits b w × PartSwept b since l c
  through_on b a since begun used waits = (
    waits,
    record {
      at = a;
      then = since;
      lasts = record { kept = λ k _ _. refl; fresh = λ k i j. let z = sym i ∙ j in absurd (grind arith) };
      in_stays = λ k i. i;
      less = omega arith;
      clock = λ y lane within d one run. inr (omega arith, (one, run));
    },
  )
  through_on b a since (further {l = l} {c = c} {d = d} before now) used waits =
      let ac = at_through b a before (omega arith) in
      let earlier = (reads_at c ac l (omega arith) since now waits).waits in
      let both = through_on b a since before (omega arith) earlier in
      let p = both.1 in
      let q = reads_at c ac l (omega arith) p.then now waits in (
        both.0,
        record {
          at = at_through b a (further before now) used;
          then = q.then;
          lasts = lasts_on b c d since p.then q.then p.in_stays p.lasts q.lasts;
          in_stays = λ k i. q.in_stays k (p.in_stays k i);
          less = omega (arith, p.less, q.less);
          clock = λ y lane within dw one run.
              ⊎_elim (λ (x : owes ps grown G S w r c p.then + 1 ≤ owes ps grown G S w r b since). inl (omega (arith, x, q.less)))
              (λ (x : (l ≤ lane) × (pledged_to ps grown G S w r c p.then y × Running r c.post y lane)).
              ⊎_elim (λ (z : owes ps grown G S w r d q.then + 1 ≤ owes ps grown G S w r c p.then). inl (omega (arith, z, p.less)))
              (λ (z : (lane ≡ l → ⊥) × (pledged_to ps grown G S w r d q.then y × Running r d.post y lane)).
              inr (omega (arith, x.0, z.0), z.1)) (q.clock y lane within dw x.1.0 x.1.1))
              (p.clock y lane within dw one run);
        },
      )

  running_below : (p : PostModel) (y l : ℕ) → Running r p y l → l < lanes_of ps
  running_below p y l (back ms at is) = lane_below ps y (r.next y) l at
  running_below p y l (out m ms at is) = lane_below ps (r.next y) y l at

  -- a whole sweep
  module _ (b : Bank PostModel) (a : At b) (since : ℕ → ℕ) (waits : Waits b w) (goal : w < length ps)
      (room : (k : ℕ) → (model_at b k).inside ≡ true → since k + 1 ≤ S) where
    abbrev pub ticked : ℕ → ℕ
    ticked k = since k + 1

    rests : Rests ps grown G S w r b.post since b.post ticked
    rests = record { lists = λ l. refl; calm = λ l _. omega arith; older = λ k. omega arith }

    ticks : owes ps grown G S w r b ticked ≤ owes ps grown G S w r b since
    ticks =
        rests_owed ps grown G S w r (model_at b) b.post b.post since ticked rests (fine_at b a since waits) (fine_at b a ticked waits)

    module _ (c : Bank PostModel) (s : PartSwept b ticked (lanes_of ps) c) where
      by_clock : Clock ps grown G S w r (model_at b) b.post since → owes ps grown G S w r c s.then + 1 ≤ owes ps grown G S w r b since
      by_clock (stays y within d one is inside) =
          omega (
            arith,
            s.less,
            stay_drops ps grown G S w r (model_at b) b.post b.post since ticked rests (fine_at b a since waits) (fine_at b a ticked waits) y within d one is inside
                refl (room y inside),
          )
      by_clock (runs y lane within d one run) =
          ⊎_elim (λ (x : owes ps grown G S w r b ticked + 1 ≤ owes ps grown G S w r b since). omega (arith, x, s.less))
          (λ (x : pledged_to ps grown G S w r b ticked y).
          ⊎_elim (λ (z : owes ps grown G S w r c s.then + 1 ≤ owes ps grown G S w r b ticked). omega (arith, z, ticks))
          (λ (z : (lanes_of ps ≤ lane) × (pledged_to ps grown G S w r c s.then y × Running r c.post y lane)).
          absurd (omega (arith, z.0, running_below b.post y lane run))) (s.clock y lane within d x run))
          (running_on ps grown G S w r (model_at b) b.post b.post since ticked rests (fine_at b a since waits) (fine_at b a ticked waits) y within d one lane run)

      pub sweep_drops : owes ps grown G S w r c s.then + 1 ≤ owes ps grown G S w r b since
      sweep_drops = by_clock (clock_at b a since waits goal)
