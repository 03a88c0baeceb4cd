-- While cabinet w waits, no event makes it owe more sweeps.
use Rattle.std.proofs.Common.{◌≡◌, ℕ, ◌+◌, ◌<◌, ◌≤◌, true, ◌⊎◌, List, [], ◌∷◌, length, Some, None, Ok, Option, sym, refl, ap, ◌∙◌, subst, inl, inr, ⊎_elim, arith}
use Rattle.std.proofs.lemmas.Bool.{cases_eq, eq-eqb}
use Rattle.cable.specs.Rows.{rest}
use Rattle.cable.specs.declared.message.Message.{Message}
use Rattle.cable.specs.declared.message.Message.TheVariants.{Request as REQUEST, Privilege as PRIVILEGE}
use Rattle.cable.specs.declared.number.CabinetNo.{CabinetNo}
use Rattle.cabinet.proofs.Keeping.{acted_once}
use Rattle.cabinet.specs.Kept.{near_by}
use Rattle.cabinet.specs.Laws.{sent}
use Rattle.cabinet.specs.Models.{Model, refused, acted, served, given, assigned, stepped}
use Rattle.cabinet.specs.Parties.{times}
use Rattle.cabinet.specs.Reactions.{reaction}
use Rattle.cabinet.specs.declared.event.Event.{Event}
use Rattle.cabinet.specs.declared.event.Event.TheVariants.{Request, Privilege}
use Rattle.cabinet.specs.declared.party.Party.{Party}
use Rattle.cabinet.specs.declared.party.Party.TheVariants.{Own, Neighbour}
use Rattle.post.specs.Posts.{PostModel}
use Rattle.promise.proofs.Acting.{near_privilege_drops, far_request_drops, far_privilege_drops}
use Rattle.promise.proofs.Clocks.{Running, running_more, running_some}
use Rattle.promise.proofs.Edges.{EdgeOk, ok_turned}
use Rattle.promise.proofs.Ends.{Due, aim, ok_is, act_edge, assign_edge}
use Rattle.promise.proofs.EventGood.{due_of}
use Rattle.promise.proofs.Goings.{in_waits}
use Rattle.promise.proofs.Good.{Good, Taken, on, members_at}
use Rattle.promise.proofs.Nets.{Net, InOrder, edge, no}
use Rattle.promise.proofs.Orientation.{Rooted}
use Rattle.promise.proofs.Pledges.{near, apart, shared, client, costs_of, pledge, Waiting, client_queued, owed, owed_falls, owed_drops, drops_or_pledged, acts_each, assigns_each, asks_each}
use Rattle.promise.proofs.Prices.{Item, Falls, Drops}
use Rattle.promise.proofs.Stages.{upd_here, upd_there, allow_small, parts, between_sound, last_sound, w₀, w₁, w₂, w₃, acts_at, assigns_at, asks_at}
use Rattle.promise.proofs.Worlds.{World, ActsAt, AssignsAt, AsksAt, cab_of, lane_of, item}
use Rattle.promise.specs.Banks.{Bank, any_post}
use Rattle.promise.specs.Events.{Posted}
use Rattle.promise.specs.Records.{model_at}
use Rattle.promise.specs.Sweeps.{arrival}
use Rattle.tree.proofs.Cables.{neighbours_mutual, neighbours_other}
use Rattle.tree.specs.Trees.{ordered, neighbours, lane_from}

-- cables stay in order if those at x do and nothing else changes
in_order_by : (nearby : ℕ → ℕ → Type 0) → ((y z : ℕ) → nearby y z → nearby z y) → (n n' : Net) (x : ℕ) → InOrder nearby n
    → ((y : ℕ) → nearby x y → EdgeOk (edge n' x y)) → ((k : ℕ) → (k ≡ x → ⊥) → n'.cab k ≡ n.cab k)
    → ((y z : ℕ) → (y ≡ x → ⊥) → (z ≡ x → ⊥) → nearby y z → n'.lane y z ≡ n.lane y z) → InOrder nearby n'
in_order_by nearby back n n' x ok here others lanes y z h =
    ⊎_elim (λ (i : y ≡ x). subst (λ k. EdgeOk (edge n' k z)) (sym i) (here z (subst (λ k. nearby k z) i h)))
    (λ (i : y ≡ x → ⊥). ⊎_elim
    (λ (j : z ≡ x). subst (λ k. EdgeOk (edge n' y k)) (sym j) (ok_turned (edge n' x y) (here y (back y x (subst (nearby y) j h)))))
    (λ (j : z ≡ x → ⊥).
    ok_is _ _ (ap (aim (Neighbour (no z))) (sym (others y i))) (ap (aim (Neighbour (no y))) (sym (others z j)))
    (ap (λ m. times (Neighbour (no z)) m.queue) (sym (others y i))) (ap (λ m. times (Neighbour (no y)) m.queue) (sym (others z j)))
    (sym (lanes y z i j h)) (sym (lanes z y j i (back y z h))) (ok y z h)) (cases_eq z x)) (cases_eq y x)

module _ (ps : List CabinetNo) (grown : ordered 0 ps ≡ true) (G : ℕ) where
  abbrev by : ℕ → ℕ → Type 0
  by x y = neighbours ps x y ≡ true

  back_again : (y z : ℕ) → by y z → by z y
  back_again y z h = neighbours_mutual ps z y ∙ h

  not_own : (x y : ℕ) → by x y → y ≡ x → ⊥
  not_own x y h i = let z = sym (neighbours_other ps grown x) ∙ subst (by x) i h in absurd (grind arith)

  -- after an event acted
  acts_order : (v v' : World) (x : ℕ) (e : Event) → ActsAt G by v x e v' → Due (cab_of v x) e → InOrder by v.net → InOrder by v'.net
  acts_order v v' x e s due ok =
      in_order_by by back_again v.net v'.net x ok
      (λ y h.
      let d = not_own x y h in
      ok_is _ _ (ap (aim (Neighbour (no y))) (sym s.one.self)) (ap (aim (Neighbour (no x))) (sym (s.one.others y d)))
      (ap (λ m. times (Neighbour (no y)) m.queue) (sym s.one.self)) (ap (λ m. times (Neighbour (no x)) m.queue) (sym (s.one.others y d)))
      (sym (s.rest x y d h)) refl
      (act_edge (no y) (cab_of v x) _ _ (lane_of v x y) (lane_of v' y x) e due (ok_is _ _ refl refl refl refl refl (s.back y h) (ok x y h))))
      s.one.others (λ y z dy dz h. s.rest y z dz h)

  -- after the privilege was assigned
  assigns_order : (v v' : World) (x : ℕ) → AssignsAt G by v x v' → ((p : Party) → times p (cab_of v x).queue ≤ 1) → InOrder by v.net → InOrder by v'.net
  assigns_order v v' x s once ok =
      in_order_by by back_again v.net v'.net x ok
      (λ y h.
      let d = not_own x y h in
      ok_is _ _ (ap (aim (Neighbour (no y))) (sym s.one.self)) (ap (aim (Neighbour (no x))) (sym (s.one.others y d)))
      (ap (λ m. times (Neighbour (no y)) m.queue) (sym s.one.self)) (ap (λ m. times (Neighbour (no x)) m.queue) (sym (s.one.others y d)))
      (sym (s.puts.out y h)) (sym (s.puts.rest y x d (back_again x y h)))
      (assign_edge (no y) (cab_of v x) _ _ (lane_of v x y) (lane_of v y x) (once (Neighbour (no y))) (ok x y h)))
      s.one.others (λ y z dy dz h. s.puts.rest y z dy h)

times-rest : (p : Party) (q : List Party) → times p (rest q) ≤ times p q
times-rest p [] = omega arith
times-rest p (x ∷ q) = omega arith

pub times_given : (p : Party) (o : Option Party) (m : Model) → times p (given o m).queue ≤ times p m.queue
times_given p None m = omega arith
times_given p (Some a) m = times-rest p m.queue

-- one event of a bank, from b to c
module _ (b : Bank PostModel) (g : Good b) (p : PostModel) (x : ℕ) (small : x < length b.parents) (e : Event) (t : Taken b p x e)
    (n : refused (near_by (members_at b x)) (model_at b x) e ≡ None) (σ : ℕ → ℕ) (q : PostModel) (c : Bank PostModel) (gc : Good c)
    (posted : Posted any_post b.parents x p (sent (reaction (model_at b x) e)) (Ok tt) q) (here : model_at c x ≡ stepped (model_at b x) e)
    (there : (k : ℕ) → (k ≡ x → ⊥) → model_at c k ≡ model_at b k) (same_tree : c.parents ≡ b.parents) (same_post : c.post ≡ q)
    (S w : ℕ) (r : Rooted b.parents w) (waits : 0 < times Own (model_at b w).queue) (waits_then : 0 < times Own (model_at c w).queue) where
  abbrev G : ℕ
  G = p.patience + 1

  abbrev Fine : World → Type 0
  Fine = Waiting b.parents g.grown G S w r

  acts : ActsAt G (near b.parents g.grown G S w r) (w₀ b p x e t σ q c posted here there) x e (w₁ b p x e t σ q c posted here there)
  acts = acts_at b p x e t σ q c posted here there

  assigns : AssignsAt G (near b.parents g.grown G S w r) (w₁ b p x e t σ q c posted here there) x (w₂ b p x e t σ q c posted here there)
  assigns = assigns_at b p x e t σ q c posted here there

  asking_step : AsksAt G (near b.parents g.grown G S w r) (w₂ b p x e t σ q c posted here there) x (w₃ b p x e t σ q c posted here there)
  asking_step =
      subst (λ k. AsksAt (k + 1) (near b.parents g.grown G S w r) (w₂ b p x e t σ q c posted here there) x (w₃ b p x e t σ q c posted here there))
      (between_sound b p x e t σ q c posted here there).patience (asks_at b p x e t σ q c posted here there)

  due : Due (model_at b x) e
  due = due_of (members_at b x) (model_at b x) e n

  once : (a : Party) → times a (cab_of (w₁ b p x e t σ q c posted here there) x).queue ≤ 1
  once a = subst (λ m. times a m.queue ≤ 1) (sym acts.one.self) (acted_once (members_at b x) (model_at b x) (g.kept x small) e n a)

  fine₀ : Fine (w₀ b p x e t σ q c posted here there)
  fine₀ =
      record {
        edges = g.edges;
        small = λ y z h. omega (arith, allow_small b.post g.sound (lane_from b.parents y z), t.patience);
        waits = waits;
      }

  -- after assigning, w is queued as it is in the end
  waits₂ : 0 < times Own (cab_of (w₂ b p x e t σ q c posted here there) w).queue
  waits₂ =
      ⊎_elim
      (λ (i : w ≡ x).
      subst (λ k. 0 < times Own (cab_of (w₂ b p x e t σ q c posted here there) k).queue) (sym i)
      (subst (λ m. 0 < times Own m.queue) (sym (upd_here (model_at b) x (assigned (acted (model_at b x) e))))
      (subst (λ m. 0 < times Own m.queue) here (subst (λ k. 0 < times Own (model_at c k).queue) i waits_then))))
      (λ (i : w ≡ x → ⊥).
      subst (λ m. 0 < times Own m.queue) (sym (upd_there (model_at b) x (assigned (acted (model_at b x) e)) w i)) waits)
      (cases_eq w x)

  waits₁ : 0 < times Own (cab_of (w₁ b p x e t σ q c posted here there) w).queue
  waits₁ =
      ⊎_elim
      (λ (i : w ≡ x).
      let more = times_given Own (served (cab_of (w₁ b p x e t σ q c posted here there) x)) (cab_of (w₁ b p x e t σ q c posted here there) x) in
      let last : 0 < times Own (cab_of (w₂ b p x e t σ q c posted here there) x).queue
      = subst (λ k. 0 < times Own (cab_of (w₂ b p x e t σ q c posted here there) k).queue) i waits₂
      in
      subst (λ k. 0 < times Own (cab_of (w₁ b p x e t σ q c posted here there) k).queue) (sym i)
      (omega (arith, more, last, ap (λ m. times Own m.queue) assigns.one.self)))
      (λ (i : w ≡ x → ⊥). subst (λ m. 0 < times Own m.queue) (sym (acts.one.others w i)) waits) (cases_eq w x)

  fine₁ : Fine (w₁ b p x e t σ q c posted here there)
  fine₁ =
      record {
        edges = acts_order b.parents g.grown G (w₀ b p x e t σ q c posted here there) (w₁ b p x e t σ q c posted here there) x e acts due g.edges;
        small = acts.small;
        waits = waits₁;
      }

  fine₂ : Fine (w₂ b p x e t σ q c posted here there)
  fine₂ =
      record {
        edges =
            assigns_order b.parents g.grown G (w₁ b p x e t σ q c posted here there) (w₂ b p x e t σ q c posted here there) x assigns once fine₁.edges;
        small = assigns.puts.small;
        waits = waits₂;
      }

  fine₃ : Fine (w₃ b p x e t σ q c posted here there)
  fine₃ =
      record {
        edges = subst (λ ps. InOrder (λ y z. neighbours b.parents y z ≡ true) (record { cab = model_at c; lane = λ y z. on q (lane_from ps y z) })) same_tree
            (λ y z h. subst (λ k. EdgeOk (edge (record { cab = model_at c; lane = λ u v. on k (lane_from c.parents u v) }) y z)) same_post
            (gc.edges y z (ap (λ ps. neighbours ps y z) same_tree ∙ h)));
        small = λ y z h. omega (arith, (asks_at b p x e t σ q c posted here there).puts.small y z h, (between_sound b p x e t σ q c posted here there).patience);
        waits = waits_then;
      }

  alone : (model_at b x).inside ≡ true → times Own (model_at b x).queue ≡ 0
  alone = in_waits (members_at b x) (model_at b x) (g.kept x small)

  abbrev v₀ : World
  v₀ = w₀ b p x e t σ q c posted here there

  abbrev v₁ : World
  v₁ = w₁ b p x e t σ q c posted here there

  abbrev v₂ : World
  v₂ = w₂ b p x e t σ q c posted here there

  abbrev v₃ : World
  v₃ = w₃ b p x e t σ q c posted here there

  abbrev owes : World → ℕ
  owes = owed b.parents g.grown G S w r

  abbrev ItemTo : World → ℕ → Item
  ItemTo v k = item S (client b.parents g.grown G S w r) v (r.next k) k

  abbrev one_at : World → ℕ → Type 0
  one_at v k = pledge b.parents g.grown G S w r v k ≡ 1

  abbrev AllFall : World → World → Type 0
  AllFall v v' =
      (k : ℕ) → k < length b.parents → (k ≡ w → ⊥) → one_at v (r.next k) → one_at v' (r.next k) → Falls G S (ItemTo v k) (ItemTo v' k)

  acts_fall : AllFall v₀ v₁
  acts_fall = acts_each b.parents g.grown G S w r v₀ v₁ x fine₀ fine₁ e acts due alone

  assigns_fall : AllFall v₁ v₂
  assigns_fall = assigns_each b.parents g.grown G S w r v₁ v₂ x fine₁ fine₂ assigns once

  asking_falls : AllFall v₂ v₃
  asking_falls = asks_each b.parents g.grown G S w r v₂ v₃ x fine₂ fine₃ asking_step

  acted_owed : owes v₁ ≤ owes v₀
  acted_owed = owed_falls b.parents g.grown G S w r v₀ v₁ fine₀ fine₁ acts_fall

  assigned_owed : owes v₂ ≤ owes v₁
  assigned_owed = owed_falls b.parents g.grown G S w r v₁ v₂ fine₁ fine₂ assigns_fall

  asked_owed : owes v₃ ≤ owes v₂
  asked_owed = owed_falls b.parents g.grown G S w r v₂ v₃ fine₂ fine₃ asking_falls

  -- no event makes w owe more
  pub event_owed : owes v₃ ≤ owes v₀
  event_owed = omega (arith, acted_owed, assigned_owed, asked_owed)

  -- a lane that keeps the wait of w going
  module _ (y lane : ℕ) (within : y < length b.parents) (d : y ≡ w → ⊥) (one : one_at v₀ (r.next y))
      (now : Running r b.post y lane) where
    runs₀ : 1 ≤ costs_of b.parents g.grown G S w r v₀ y
    runs₀ = running_some b.parents g.grown G S w r (model_at b) b.post σ fine₀ y lane within d now

    -- its head arrives
    pub arrives_drops : Drops G S (ItemTo v₀ y) (ItemTo v₁ y) → owes v₃ + 1 ≤ owes v₀
    arrives_drops drop =
        omega (
          arith,
          owed_drops b.parents g.grown G S w r v₀ v₁ fine₀ fine₁ acts_fall y within d one runs₀ (λ _. drop.price),
          assigned_owed,
          asked_owed,
        )

    -- its head stays
    module _ (runs : Running r p y lane) where
      abbrev Goes : World → PostModel → Type 0
      Goes v o = (owes v + 1 ≤ owes v₀) ⊎ (one_at v (r.next y) × Running r o y lane)

      on₁ : Goes v₁ p
      on₁ =
          ⊎_elim (λ (a : owes v₁ + 1 ≤ owes v₀). inl a) (λ (a : one_at v₁ (r.next y)). inr (a, runs))
          (drops_or_pledged b.parents g.grown G S w r v₀ v₁ fine₀ fine₁ acts_fall y within d one runs₀)

      on₂ : Goes v₁ p → Goes v₂ (parts b p x e t σ q c posted here there).0
      on₂ (inl a) = inl (omega (arith, a, assigned_owed))
      on₂ (inr (a, k)) =
          ⊎_elim (λ (h : owes v₂ + 1 ≤ owes v₁). inl (omega (arith, h, acted_owed)))
          (λ (h : one_at v₂ (r.next y)).
          inr (h, running_more r _ _ y lane _ ((between_sound b p x e t σ q c posted here there).waiting lane) k))
          (drops_or_pledged b.parents g.grown G S w r v₁ v₂ fine₁ fine₂ assigns_fall y within d a
          (running_some b.parents g.grown G S w r _ p σ fine₁ y lane within d k))

      on₃ : Goes v₂ (parts b p x e t σ q c posted here there).0 → Goes v₃ q
      on₃ (inl a) = inl (omega (arith, a, asked_owed))
      on₃ (inr (a, k)) =
          ⊎_elim (λ (h : owes v₃ + 1 ≤ owes v₂). inl (omega (arith, h, acted_owed, assigned_owed)))
          (λ (h : one_at v₃ (r.next y)).
          inr (h, running_more r _ _ y lane _ ((last_sound b p x e t σ q c posted here there).waiting lane) k))
          (drops_or_pledged b.parents g.grown G S w r v₂ v₃ fine₂ fine₃ asking_falls y within d a
          (running_some b.parents g.grown G S w r _ (parts b p x e t σ q c posted here there).0 _ fine₂ y lane within d k))

      pub runs_on : (owes v₃ + 1 ≤ owes v₀) ⊎ (one_at v₃ (r.next y) × Running r q y lane)
      runs_on = on₃ (on₂ on₁)

    beside : near b.parents g.grown G S w r (r.next y) y
    beside = shared b.parents g.grown G S w r y (r.next y) (r.toward y within d).0

    abbrev Lower : ℕ → ℕ → Type 0
    Lower k i =
        Drops G S (item S (client b.parents g.grown G S w r) v₀ k i) (item S (client b.parents g.grown G S w r) v₁ k i)

    acts_as : (a : Event) → e ≡ a → ActsAt G (near b.parents g.grown G S w r) v₀ x a v₁
    acts_as a is = subst (λ k. ActsAt G (near b.parents g.grown G S w r) v₀ x k v₁) is acts

    -- by what it is that arrives: PRIVILEGE at the near end, or anything at the far end
    pub back_arrives : x ≡ r.next y → e ≡ Privilege (no y) → owes v₃ + 1 ≤ owes v₀
    back_arrives at is =
        arrives_drops
        (subst (λ k. Lower k y) at
        (near_privilege_drops G S (near b.parents g.grown G S w r) (apart b.parents g.grown G S w r) (shared b.parents g.grown G S w r)
        (client b.parents g.grown G S w r) v₀ v₁ x fine₀.edges y (subst (λ k. near b.parents g.grown G S w r k y) (sym at) beside)
        (subst (λ k. 0 < times (client b.parents g.grown G S w r k) (cab_of v₀ k).queue) (sym at)
        (client_queued b.parents g.grown G S w r v₀ fine₀ (r.next y) (r.toward y within d).1 one))
        (no y) (acts_as (Privilege (no y)) is) (eq-eqb y y refl)))

    out_lower : (m : Message) → e ≡ arrival m (r.next y) → near b.parents g.grown G S w r (r.next y) x → Lower (r.next y) x
    out_lower REQUEST is h =
        far_request_drops G S (near b.parents g.grown G S w r) (apart b.parents g.grown G S w r) (shared b.parents g.grown G S w r)
        (client b.parents g.grown G S w r) v₀ v₁ x fine₀.edges (r.next y) (shared b.parents g.grown G S w r (r.next y) x h) alone (no (r.next y)) (acts_as (Request (no (r.next y))) is)
        (eq-eqb (r.next y) (r.next y) refl)
    out_lower PRIVILEGE is h =
        far_privilege_drops G S (near b.parents g.grown G S w r) (apart b.parents g.grown G S w r) (shared b.parents g.grown G S w r)
        (client b.parents g.grown G S w r) v₀ v₁ x fine₀.edges (r.next y) (shared b.parents g.grown G S w r (r.next y) x h) alone (no (r.next y)) (acts_as (Privilege (no (r.next y))) is)
        (eq-eqb (r.next y) (r.next y) refl)

    pub out_arrives : x ≡ y → (m : Message) → e ≡ arrival m (r.next y) → owes v₃ + 1 ≤ owes v₀
    out_arrives at m is =
        arrives_drops
        (subst (Lower (r.next y)) at (out_lower m is (subst (near b.parents g.grown G S w r (r.next y)) (sym at) beside)))
