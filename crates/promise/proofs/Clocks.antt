-- What keeps the wait of cabinet w going: behind a pledged cabinet a message is under way, or a stay goes on.
use Rattle.std.proofs.Common.{◌≡◌, ℕ, zero, suc, ◌+◌, ◌-◌, ◌*◌, ◌<◌, ◌≤◌, Bool, true, false, not, ◌&&◌, ◌⊎◌, List, [], ◌∷◌, ◌++◌, length, get_or, Some, None, Option, sym, refl, ap, ◌∙◌, subst, inl, inr, ⊎_elim, arith}
use Rattle.std.proofs.lemmas.Bool.{cases_eq, cases_Bool, cases_lt, cond-true, cond-false, eq-eqb, ne_eqb}
use Rattle.cable.specs.declared.message.Message.{Message}
use Rattle.cable.specs.declared.message.Message.TheVariants.{Request as REQUEST, Privilege as PRIVILEGE}
use Rattle.cable.specs.declared.number.CabinetNo.{CabinetNo}
use Rattle.cabinet.proofs.Counting.{same_self}
use Rattle.cabinet.specs.Kept as cabinet
use Rattle.cabinet.specs.Models.{Model, some}
use Rattle.cabinet.specs.Parties.{own, same, times}
use Rattle.cabinet.specs.declared.party.Party.{Party}
use Rattle.cabinet.specs.declared.party.Party.TheVariants.{Own, Neighbour}
use Rattle.post.specs.Posts.{PostModel}
use Rattle.promise.proofs.Edges.{EdgeView, EdgeOk, calling}
use Rattle.promise.proofs.Ends.{aim}
use Rattle.promise.proofs.EventGood.{lane_there}
use Rattle.promise.proofs.Good.{on, allow_on}
use Rattle.promise.proofs.Nets.{edge, no}
use Rattle.promise.proofs.Orientation.{Rooted}
use Rattle.promise.proofs.Pledges.{near, shared, client, rows_of, costs_of, pledge, owed, Waiting, client_queued, one_is_promised, owed_falls, owed_drops, drops_or_pledged, owed_some}
use Rattle.promise.proofs.Prices.{Item, promised, row, status_of, cost, Falls, row_comes, row_goes, row_sought, row_waits}
use Rattle.promise.proofs.Stages.{world}
use Rattle.promise.proofs.Statuses.{status_goal, status_next, status_pledged, through}
use Rattle.promise.proofs.Unmoved.{view_is, near_same, far_same, unmoved}
use Rattle.promise.proofs.Worlds.{World, stay_of, item}
use Rattle.tree.proofs.Cables.{neighbours_within}
use Rattle.tree.specs.Trees.{ordered, neighbours, lane_from}

times-length : (a : Party) (q : List Party) → times a q ≤ length q
times-length a [] = omega arith
times-length a (x ∷ q) =
    ⊎_elim (λ (s : same a x ≡ true). omega (arith, cond-true {A = ℕ} (same a x) 1 0 s, times-length a q))
    (λ (s : same a x ≡ false). omega (arith, cond-false {A = ℕ} (same a x) 1 0 s, times-length a q)) (cases_Bool (same a x))

-- an end that has asked: something is on a lane, or it waits at the other end
calling_view : (v : EdgeView) → EdgeOk v → v.near ≡ calling
    → (((m : Message) × ((ms : List Message) × (v.out ≡ m ∷ ms))) ⊎ ((ms : List Message) × (v.back ≡ PRIVILEGE ∷ ms))) ⊎ ((v.out ≡ []) × (v.back ≡ []))
calling_view v (inl (inl s)) n = absurd (grind arith)
calling_view v (inl (inr (inl s))) n = inl (inl (REQUEST, ([], s.4)))
calling_view v (inl (inr (inr (inl s)))) n = inr (s.4, s.5)
calling_view v (inl (inr (inr (inr (inl s))))) n = absurd (grind arith)
calling_view v (inl (inr (inr (inr (inr s))))) n = inl (inl (PRIVILEGE, (REQUEST ∷ [], s.4)))
calling_view v (inr (inl s)) n = absurd (grind arith)
calling_view v (inr (inr (inl s))) n = absurd (grind arith)
calling_view v (inr (inr (inr (inl s)))) n = absurd (grind arith)
calling_view v (inr (inr (inr (inr (inl s))))) n = inl (inr ([], s.4))
calling_view v (inr (inr (inr (inr (inr s))))) n = inl (inr (REQUEST ∷ [], s.4))

module _ {ps : List CabinetNo} {w : ℕ} (r : Rooted ps w) where
  -- on lane l, PRIVILEGE comes back from c, or something goes out to c
  pub data Running (p : PostModel) (c l : ℕ) : Type 0 where
    back : (ms : List Message) → lane_from ps c (r.next c) ≡ Some l → p.waiting l ≡ PRIVILEGE ∷ ms → Running p c l
    out : (m : Message) (ms : List Message) → lane_from ps (r.next c) c ≡ Some l → p.waiting l ≡ m ∷ ms → Running p c l

  -- what joins behind the head of a lane does not matter
  pub running_more : (p q : PostModel) (c l : ℕ) (more : List Message) → q.waiting l ≡ p.waiting l ++ more → Running p c l → Running q c l
  running_more p q c l more e (back ms at is) = back (ms ++ more) at (e ∙ ap (λ k. k ++ more) is)
  running_more p q c l more e (out m ms at is) = out m (ms ++ more) at (e ∙ ap (λ k. k ++ more) is)

  pub running_same : (p q : PostModel) (c l : ℕ) → q.waiting l ≡ p.waiting l → Running p c l → Running q c l
  running_same p q c l e (back ms at is) = back ms at (e ∙ is)
  running_same p q c l e (out m ms at is) = out m ms at (e ∙ is)

module _ (ps : List CabinetNo) (grown : ordered 0 ps ≡ true) (G S w : ℕ) (r : Rooted ps w) where
  -- what such an edge costs beyond the wait for that lane
  abbrev pub beyond : {p : PostModel} {c l : ℕ} → Running r p c l → ℕ
  beyond (back ms at is) = 0
  beyond (out REQUEST ms at is) = G + S
  beyond (out PRIVILEGE ms at is) = 2 * G + S

  beyond_same : (p q : PostModel) (c l : ℕ) (e : q.waiting l ≡ p.waiting l) (x : Running r p c l) → beyond (running_same r p q c l e x) ≡ beyond x
  unfolding running_same
  beyond_same p q c l e (back ms at is) = refl
  beyond_same p q c l e (out REQUEST ms at is) = refl
  beyond_same p q c l e (out PRIVILEGE ms at is) = refl

  abbrev Fine : World → Type 0
  Fine = Waiting ps grown G S w r

  abbrev item_to : World → ℕ → Item
  item_to v c = item S (client ps grown G S w r) v (r.next c) c

  toward_it : (c : ℕ) → c < length ps → (c ≡ w → ⊥) → near ps grown G S w r (r.next c) c
  toward_it c l d = shared ps grown G S w r c (r.next c) (r.toward c l d).0

  module _ (f : ℕ → Model) (p : PostModel) (since : ℕ → ℕ) (k : Fine (world ps f p since)) (c l : ℕ) (within : c < length ps) (d : c ≡ w → ⊥) where
    ok : EdgeOk (edge (world ps f p since).net (r.next c) c)
    ok = k.edges (r.next c) c (toward_it c within d)

    pub running_costs : (x : Running r p c l) → costs_of ps grown G S w r (world ps f p since) c ≡ p.allowance l + 1 + beyond x
    running_costs (back ms at is) =
        omega (arith, ap (allow_on p) at, ap (λ x. cost G S x (item_to (world ps f p since) c)) (row_comes (item_to (world ps f p since) c) ms (ap (on p) at ∙ is)))
    running_costs (out REQUEST ms at is) =
        omega (arith, ap (allow_on p) at, ap (λ x. cost G S x (item_to (world ps f p since) c)) (row_sought (item_to (world ps f p since) c) ok ms (ap (on p) at ∙ is)))
    running_costs (out PRIVILEGE ms at is) =
        omega (arith, ap (allow_on p) at, ap (λ x. cost G S x (item_to (world ps f p since) c)) (row_goes (item_to (world ps f p since) c) ok ms (ap (on p) at ∙ is)))

    pub running_some : Running r p c l → 1 ≤ costs_of ps grown G S w r (world ps f p since) c
    running_some x = omega (arith, running_costs x)

  -- nothing moves: no allowance rises where something waits, and stays have lasted no shorter
  pub record Rests (p : PostModel) (since : ℕ → ℕ) (q : PostModel) (then : ℕ → ℕ) : Type 0 where
    pub lists : (l : ℕ) → q.waiting l ≡ p.waiting l
    pub calm : (l : ℕ) → (p.waiting l ≡ [] → ⊥) → q.allowance l ≤ p.allowance l
    pub older : (k : ℕ) → since k ≤ then k

  module _ (f : ℕ → Model) (p q : PostModel) (since then : ℕ → ℕ) (rests : Rests p since q then) (fine : Fine (world ps f p since)) (fine' : Fine (world ps f q then)) where
    on_same : (o : Option ℕ) → on q o ≡ on p o
    on_same None = refl
    on_same (Some l) = rests.lists l

    calm_on : (o : Option ℕ) → (on p o ≡ [] → ⊥) → allow_on q o ≤ allow_on p o
    calm_on None h = absurd (h refl)
    calm_on (Some l) h = rests.calm l h

    pub rests_each : (c : ℕ) → c < length ps → (c ≡ w → ⊥) → Falls G S (item_to (world ps f p since) c) (item_to (world ps f q then) c)
    rests_each c l d =
        unmoved S (client ps grown G S w r) (world ps f p since) (world ps f q then) G (r.next c) c (fine.edges (r.next c) c (toward_it c l d))
        (near_same S (client ps grown G S w r) _ _ (r.next c) c refl) (far_same S (client ps grown G S w r) _ _ (r.next c) c refl (rests.older c))
        (record { list = on_same (lane_from ps (r.next c) c); calm = calm_on (lane_from ps (r.next c) c) })
        (record { list = on_same (lane_from ps c (r.next c)); calm = calm_on (lane_from ps c (r.next c)) })

    pub rests_owed : owed ps grown G S w r (world ps f q then) ≤ owed ps grown G S w r (world ps f p since)
    rests_owed =
        owed_falls ps grown G S w r (world ps f p since) (world ps f q then) fine fine' (λ c l d _ _. rests_each c l d)

    module _ (c : ℕ) (within : c < length ps) (d : c ≡ w → ⊥) (one : pledge ps grown G S w r (world ps f p since) (r.next c) ≡ 1) where
      -- an empty pull of the lane
      pub running_drops : (l : ℕ) → Running r p c l → q.allowance l < p.allowance l
          → owed ps grown G S w r (world ps f q then) + 1 ≤ owed ps grown G S w r (world ps f p since)
      running_drops l x less =
          owed_drops ps grown G S w r (world ps f p since) (world ps f q then) fine fine' (λ i li di _ _. rests_each i li di) c within d one
          (running_some f p since fine c l within d x)
          (λ _. omega (
            arith,
            running_costs f p since fine c l within d x,
            running_costs f q then fine' c l within d (running_same r p q c l (rests.lists l) x),
            beyond_same p q c l (rests.lists l) x,
          ))

      pub running_on : (l : ℕ) → Running r p c l
          → (owed ps grown G S w r (world ps f q then) + 1 ≤ owed ps grown G S w r (world ps f p since)) ⊎ (pledge ps grown G S w r (world ps f q then) (r.next c) ≡ 1)
      running_on l x =
          drops_or_pledged ps grown G S w r (world ps f p since) (world ps f q then) fine fine' (λ i li di _ _. rests_each i li di) c within d one
          (running_some f p since fine c l within d x)

      -- one sweep more of a stay behind which the promise stands
      pub stay_drops : rows_of ps grown G S w r (world ps f p since) c ≡ promised → (f c).inside ≡ true → then c ≡ since c + 1 → since c + 1 ≤ S
          → owed ps grown G S w r (world ps f q then) + 1 ≤ owed ps grown G S w r (world ps f p since)
      stay_drops is inside more room =
          let i = item_to (world ps f p since) c in
          let j = item_to (world ps f q then) c in
          let before : stay_of S (since c) (f c) (r.next c) ≡ S - since c = cond-true _ _ _ inside in
          let after : stay_of S (then c) (f c) (r.next c) ≡ S - then c = cond-true _ _ _ inside in
          let same : row j ≡ row i =
          ap (λ v. row (record { view = v; ahead = i.ahead; stay = j.stay; a_out = j.a_out; a_back = j.a_back }))
          (view_is j.view i.view refl refl refl refl (on_same (lane_from ps (r.next c) c)) (on_same (lane_from ps c (r.next c))))
          in
          let was = ap (λ x. cost G S x i) is in
          let now = ap (λ x. cost G S x j) (same ∙ is) in
          owed_drops ps grown G S w r (world ps f p since) (world ps f q then) fine fine' (λ k lk dk _ _. rests_each k lk dk) c within d one
          (omega (arith, was, before, room)) (λ _. omega (arith, was, now, before, after, more, room))

  -- what runs: a stay behind which the promise stands, or a lane
  pub data Clock (f : ℕ → Model) (p : PostModel) (since : ℕ → ℕ) : Type 0 where
    stays :
        (c : ℕ) → c < length ps → (c ≡ w → ⊥) → pledge ps grown G S w r (world ps f p since) (r.next c) ≡ 1
        → rows_of ps grown G S w r (world ps f p since) c ≡ promised → (f c).inside ≡ true → Clock f p since
    runs :
        (c l : ℕ) → c < length ps → (c ≡ w → ⊥) → pledge ps grown G S w r (world ps f p since) (r.next c) ≡ 1 → Running r p c l → Clock f p since

  pub clock_owed : (f : ℕ → Model) (p : PostModel) (since : ℕ → ℕ) → Fine (world ps f p since) → Clock f p since → 1 ≤ owed ps grown G S w r (world ps f p since)
  clock_owed f p since fine (stays c l d one is inside) =
      owed_some ps grown G S w r (world ps f p since) c l d one (omega (arith, ap (λ x. cost G S x (item_to (world ps f p since) c)) is, fine.small (r.next c) c (toward_it c l d)))
  clock_owed f p since fine (runs c n l d one x) = owed_some ps grown G S w r (world ps f p since) c l d one (running_some f p since fine c n l d x)

  -- the walk from w along the holders
  module _ (f : ℕ → Model) (p : PostModel) (since : ℕ → ℕ) (fine : Fine (world ps f p since)) (members : ℕ → List Bool)
      (kept : (y : ℕ) → y < length ps → cabinet.Kept (members y) (f y))
      (known : (y n : ℕ) → y < length ps → get_or (members y) n false ≡ neighbours ps y n) where
    abbrev one_at : ℕ → Type 0
    one_at y = pledge ps grown G S w r (world ps f p since) y ≡ 1

    -- another pledged cabinet, farther from w
    record Farther (y : ℕ) : Type 0 where
      at : ℕ
      within : at < length ps
      one : one_at at
      farther : r.rank y < r.rank at

    module _ (y : ℕ) (l : y < length ps) (one : one_at y) where
      asker_there : 0 < times (client ps grown G S w r y) (f y).queue
      asker_there = client_queued ps grown G S w r (world ps f p since) fine y l one

      some_there : (q : List Party) (a : Party) → 0 < times a q → some q ≡ true
      some_there [] a h = absurd (omega arith)
      some_there (x ∷ q) a h = refl

      -- the holder is not the one for whom y promised the privilege
      not_client : (h : Party) → (f y).holder ≡ h → client ps grown G S w r y ≡ h → ⊥
      not_client h e same =
          omega (arith, asker_there, (kept y l).apart, ap (λ a. times a (f y).queue) (e ∙ sym same))

      is_w : y ≡ w → client ps grown G S w r y ≡ Own
      is_w i = cond-true _ _ _ (eq-eqb y w i)

      -- y has the privilege: it is in
      holds : (f y).holder ≡ Own → Clock f p since
      holds e =
          let home : own (f y).holder ≡ true = ap own e in
          ⊎_elim
          (λ (i : (f y).inside ≡ true). ⊎_elim (λ (j : y ≡ w). absurd (not_client Own e (is_w j)))
          (λ (j : y ≡ w → ⊥).
          let s = status_pledged r (rows_of ps grown G S w r (world ps f p since)) r.most (omega arith) y l j one in
          stays y l j s.0 (one_is_promised _ s.1) i) (cases_eq y w))
          (λ (i : (f y).inside ≡ false).
          absurd (omega (arith, asker_there, times-length (client ps grown G S w r y) (f y).queue, (kept y l).idle home i)))
          (cases_Bool (f y).inside)

      -- y has asked its neighbour x
      module _ (x : ℕ) (e : (f y).holder ≡ Neighbour (no x)) where
        nearby : near ps grown G S w r y x
        nearby = sym (known y x l) ∙ subst (λ h. cabinet.knows (members y) h ≡ true) e (kept y l).near

        asked : (f y).asked ≡ true
        asked =
            (kept y l).asks ∙ ap (λ h. not (own h) && some (f y).queue) e ∙ some_there (f y).queue (client ps grown G S w r y) asker_there

        calls : aim (Neighbour (no x)) (f y) ≡ calling
        calls =
            cond-true _ _ _ (ap (same (Neighbour (no x))) e ∙ same_self (Neighbour (no x))) ∙ cond-true _ _ _ asked

        within_x : x < length ps
        within_x =
            ⊎_elim (λ (h : x < length ps). h)
            (λ (h : length ps ≤ x). let z = sym (neighbours_within ps grown y x h) ∙ nearby in absurd (grind arith)) (cases_lt x (length ps))

        module _ (d : x ≡ w → ⊥) (n : r.next x ≡ y) where
          near_one : one_at (r.next x)
          near_one = subst one_at (sym n) one

          abbrev seen_from : ℕ → EdgeView
          seen_from k = edge (world ps f p since).net k x

          by_view : (((m : Message) × ((ms : List Message) × ((seen_from y).out ≡ m ∷ ms))) ⊎ ((ms : List Message) × ((seen_from y).back ≡ PRIVILEGE ∷ ms)))
              ⊎ (((seen_from y).out ≡ []) × ((seen_from y).back ≡ [])) → Clock f p since ⊎ Farther y
          by_view (inl (inl (m, (ms, o)))) =
              let at = lane_there ps y x nearby in
              inl (runs x at.0 within_x d near_one
              (out m ms (ap (λ k. lane_from ps k x) n ∙ at.1) (ap (on p) (sym at.1) ∙ o)))
          by_view (inl (inr (ms, b))) =
              let at = lane_there ps x y (shared ps grown G S w r y x nearby) in
              inl (runs x at.0 within_x d near_one
              (back ms (ap (λ k. lane_from ps x k) n ∙ at.1) (ap (on p) (sym at.1) ∙ b)))
          by_view (inr (o, b)) =
              let v = world ps f p since in
              let rows = rows_of ps grown G S w r v in
              let is : rows x ≡ promised = subst (λ k. row (item S (client ps grown G S w r) v k x) ≡ promised) (sym n) (row_waits (item S (client ps grown G S w r) v y x) calls o b) in
              let s = status_next r rows r.most (omega arith) x within_x d in
              inr (record {
                at = x;
                within = within_x;
                one = s ∙ ap (λ k. through k (rows x)) near_one ∙ ap status_of is;
                farther = subst (λ k. r.rank k < r.rank x) n (r.toward x within_x d).2;
              })

          onward : Clock f p since ⊎ Farther y
          onward = by_view (calling_view (seen_from y) (fine.edges y x nearby) calls)

        asked_it : Clock f p since ⊎ Farther y
        asked_it =
            ⊎_elim
            (λ (h : (y ≡ w → ⊥) × (r.next y ≡ x)).
            absurd (not_client (Neighbour (no x)) e (cond-false _ _ _ (ne_eqb y w h.0) ∙ ap (λ k. Neighbour (no k)) h.1)))
            (λ (h : (x ≡ w → ⊥) × (r.next x ≡ y)). onward h.0 h.1) (r.either y x nearby)

      by_holder : (h : Party) → (f y).holder ≡ h → Clock f p since ⊎ Farther y
      by_holder Own e = inl (holds e)
      by_holder (Neighbour u) e = asked_it u.0 e

    walk : (fuel y : ℕ) → y < length ps → one_at y → r.most < r.rank y + fuel → Clock f p since
    walk zero y l one b = absurd (omega (arith, r.bounded y l))
    walk (suc fuel) y l one b =
        ⊎_elim (λ (k : Clock f p since). k)
        (λ (x : Farther y). walk fuel x.at x.within x.one (omega (arith, x.farther))) (by_holder y l one (f y).holder refl)

    -- there is always something that runs
    pub clock : w < length ps → Clock f p since
    clock l = walk (r.most + 1) w l (status_goal r (rows_of ps grown G S w r (world ps f p since)) r.most) (omega arith)
