-- What a pull brings is due at the cabinet that it is given to.
use Rattle.std.proofs.Common.{◌≡◌, ℕ, ◌+◌, ◌<◌, ◌≤◌, Bool, true, false, cond, List, [], ◌∷◌, length, is_some, Some, None, Ok, Err, Option, Result, sym, refl, ap, ◌∙◌, subst, ⊎_elim, arith}
use Rattle.std.proofs.lemmas.Bool.{cases_eq, cases_lt, cond-true, cond-false, eq-eqb, ne_eqb, le-ltb, and_from, or_from}
use Rattle.cable.specs.Numbers.{lanes}
use Rattle.cable.specs.declared.message.Message.{Message}
use Rattle.cable.specs.declared.message.Message.TheVariants.{Request as REQUEST, Privilege as PRIVILEGE}
use Rattle.cable.specs.declared.refusal.Refusal.{Refusal}
use Rattle.cabinet.specs.Kept.{near_by}
use Rattle.cabinet.specs.Models.{refused}
use Rattle.cabinet.specs.Parties.{same, times}
use Rattle.cabinet.specs.declared.party.Party.TheVariants.{Neighbour}
use Rattle.post.specs.Posts.{PostModel, PostSound, Pulls, Gives, Holds}
use Rattle.promise.proofs.Balance.{arrived}
use Rattle.promise.proofs.Edges.{away, quiet, calling, request_due, privilege_due}
use Rattle.promise.proofs.Ends.{before}
use Rattle.promise.proofs.EventGood.{lane_there, lane_below}
use Rattle.promise.proofs.Good.{Good, Taken, on, allow_on, net_of, near, members_at}
use Rattle.promise.proofs.Nets.{edge, no}
use Rattle.promise.proofs.Totals.{total_change}
use Rattle.promise.specs.Banks.{Bank, with_post}
use Rattle.promise.specs.Promise.{privileges, under_way}
use Rattle.promise.specs.Records.{model_at}
use Rattle.promise.specs.Sweeps.{arrival}
use Rattle.tree.proofs.Cables.{ends_lane, lane_once, neighbours_lane, neighbours_mutual, neighbours_within}
use Rattle.tree.specs.Trees.{lane_from, lanes_of, ends_of}

aim_away : (s a : Bool) → cond s (cond a calling quiet) away ≡ away → s ≡ false
aim_away true true e = absurd (grind arith)
aim_away true false e = absurd (grind arith)
aim_away false a e = refl

aim_calling : (s a : Bool) → cond s (cond a calling quiet) away ≡ calling → (s ≡ true) × (a ≡ true)
aim_calling true true e = (refl, refl)
aim_calling true false e = absurd (grind arith)
aim_calling false a e = absurd (grind arith)

-- a pull that gave a message
pub record Pulled (p : PostModel) (l : ℕ) (m : Message) (q : PostModel) : Type 0 where
  pub waited : p.waiting l ≡ m ∷ q.waiting l
  pub others : (k : ℕ) → (k ≡ l → ⊥) → q.waiting k ≡ p.waiting k
  pub calm : (k : ℕ) → (k ≡ l → ⊥) → q.allowance k ≤ p.allowance k
  pub sound : PostSound q
  pub patience : q.patience ≡ p.patience

module _ (p : PostModel) (l : ℕ) (q : PostModel) (ok : PostSound p) (within : l < lanes) where
  sound_after : {r : Result (Option Message) Refusal} → Pulls p l r q → q.allowance l ≤ p.patience → length (q.waiting l) ≤ 4 → PostSound q
  sound_after s here few =
      record {
        bounded = omega (arith, ok.bounded, s.patience);
        allowances = λ k.
            ⊎_elim (λ (e : k ≡ l). omega (arith, ap q.allowance e, s.patience))
            (λ (e : k ≡ l → ⊥). omega (arith, ok.allowances k, (s.others within).allowance k e, s.patience)) (cases_eq k l);
        few = λ k.
            ⊎_elim (λ (e : k ≡ l). omega (arith, ap (λ i. length (q.waiting i)) e))
            (λ (e : k ≡ l → ⊥). omega (arith, ok.few k, ap length ((s.others within).waiting k e))) (cases_eq k l);
      }

  by_list : (m : Message) → Pulls p l (Ok (Some m)) q → (w : List Message) → p.waiting l ≡ w → Pulled p l m q
  by_list m s [] e = let z = (s.empty within e).0 in absurd (grind arith)
  by_list m s (m₁ ∷ ms) e = ⊎_elim gave held (s.some within m₁ ms e)
    where
      gave : Gives l m₁ ms p (Ok (Some m)) q → Pulled p l m q
      gave v =
          let is : m ≡ m₁ = let z = v.given in cc in
          record {
            waited = e ∙ ap (λ h. h ∷ ms) (sym is) ∙ ap (λ t. m ∷ t) (sym v.rest);
            others = (s.others within).waiting;
            calm = (s.others within).allowance;
            sound = sound_after s v.renewed (omega (arith, ok.few l, ap length e, ap length v.rest));
            patience = s.patience;
          }

      held : Holds l p (Ok (Some m)) q → Pulled p l m q
      held v = let z = v.nothing in absurd (grind arith)

  pub pulled : (m : Message) → Pulls p l (Ok (Some m)) q → Pulled p l m q
  pulled m s = by_list m s (p.waiting l) refl

  -- one that came back empty leaves all lists as they were
  pub record Unchanged : Type 0 where
    pub waiting : (k : ℕ) → q.waiting k ≡ p.waiting k
    pub sound : PostSound q
    pub patience : q.patience ≡ p.patience
    pub calm : (k : ℕ) → (k ≡ l → ⊥) → q.allowance k ≤ p.allowance k
    pub falls : (p.waiting l ≡ [] → ⊥) → q.allowance l < p.allowance l

  pub came_empty : Pulls p l (Ok None) q → Unchanged
  came_empty s = by_wait (p.waiting l) refl
    where
      all_same : q.waiting l ≡ p.waiting l → (k : ℕ) → q.waiting k ≡ p.waiting k
      all_same h k =
          ⊎_elim (λ (e : k ≡ l). ap q.waiting e ∙ h ∙ ap p.waiting (sym e)) (λ (e : k ≡ l → ⊥). (s.others within).waiting k e) (cases_eq k l)

      made : q.waiting l ≡ p.waiting l → q.allowance l ≤ p.patience → ((p.waiting l ≡ [] → ⊥) → q.allowance l < p.allowance l) → Unchanged
      made h a f =
          record {
            waiting = all_same h;
            sound = sound_after s a (omega (arith, ok.few l, ap length h));
            patience = s.patience;
            calm = (s.others within).allowance;
            falls = f;
          }

      by_wait : (w : List Message) → p.waiting l ≡ w → Unchanged
      by_wait [] e = let z = s.empty within e in made (z.1 ∙ sym e) z.2 (λ some. absurd (some e))
      by_wait (m ∷ ms) e =
          ⊎_elim (λ (v : Gives l m ms p (Ok None) q). let z = v.given in absurd (grind arith))
          (λ (v : Holds l p (Ok None) q). made v.stays (omega (arith, v.falls, ok.allowances l)) (λ _. v.falls)) (s.some within m ms e)

  -- and on a lane there is, a pull is never refused
  pub not_refused : (why : Refusal) → Pulls p l (Err why) q → ⊥
  not_refused why s = by_wait (p.waiting l) refl
    where
      by_wait : (w : List Message) → p.waiting l ≡ w → ⊥
      by_wait [] e = let z = (s.empty within e).0 in absurd (grind arith)
      by_wait (m ∷ ms) e =
          ⊎_elim (λ (v : Gives l m ms p (Err why) q). let z = v.given in absurd (grind arith))
          (λ (v : Holds l p (Err why) q). let z = v.nothing in absurd (grind arith)) (s.some within m ms e)

privileges_first : (m : Message) (ms : List Message) (from : ℕ) → privileges (m ∷ ms) ≡ privileges ms + arrived (arrival m from)
privileges_first REQUEST ms from = omega arith
privileges_first PRIVILEGE ms from = omega arith

before_here : (m : Message) (from : ℕ) (w : List Message) → before (no from) (arrival m from) w ≡ m ∷ w
before_here REQUEST from w = cond-true _ _ _ (eq-eqb from from refl)
before_here PRIVILEGE from w = cond-true _ _ _ (eq-eqb from from refl)

before_there : (m : Message) (from y : ℕ) (w : List Message) → (y ≡ from → ⊥) → before (no y) (arrival m from) w ≡ w
before_there REQUEST from y w d = cond-false _ _ _ (ne_eqb from y (λ i. d (sym i)))
before_there PRIVILEGE from y w d = cond-false _ _ _ (ne_eqb from y (λ i. d (sym i)))

longer_list : (w : List Message) (m : Message) → w ≡ m ∷ w → ⊥
longer_list w m e = omega (arith, ap length e)

fewer : (ub up a c d : ℕ) → up + (a + c) ≡ ub + a → d ≡ c → ub ≡ up + d
fewer ub up a c d e f = omega arith

-- the message m came off lane l, which runs from one cabinet to another
module _ (b : Bank PostModel) (g : Good b) (l from to : ℕ) (ends : ends_of b.parents l ≡ Some (from, to)) (m : Message) (q : PostModel)
    (p : Pulled b.post l m q) where
  lane_is : lane_from b.parents from to ≡ Some l
  lane_is = ends_lane b.parents g.grown from to l ends

  pub near_from : near b from to
  near_from = sym (neighbours_lane b.parents from to) ∙ ap is_some lane_is

  pub near_to : near b to from
  near_to = neighbours_mutual b.parents to from ∙ near_from

  pub to_below : to < length b.parents
  to_below =
      ⊎_elim (λ (h : to < length b.parents). h)
      (λ (h : length b.parents ≤ to). let z = sym (neighbours_within b.parents g.grown from to h) ∙ near_from in absurd (grind arith))
      (cases_lt to (length b.parents))

  below : l < lanes_of b.parents
  below = lane_below b.parents from to l lane_is

  -- another pair's lane is another lane
  lane_other : (y z : ℕ) → ((y ≡ from) × (z ≡ to) → ⊥) → near b y z
      → on q (lane_from b.parents y z) ≡ on b.post (lane_from b.parents y z)
  lane_other y z d h =
      let k = lane_there b.parents y z h in
      ap (on q) k.1
      ∙ p.others k.0 (λ i. d (lane_once b.parents y z from to l (k.1 ∙ ap Some i) lane_is))
      ∙ ap (on b.post) (sym k.1)

  on_that_lane : on b.post (lane_from b.parents from to) ≡ m ∷ on q (lane_from b.parents from to)
  on_that_lane = ap (on b.post) lane_is ∙ p.waited ∙ ap (λ o. m ∷ on q o) (sym lane_is)

  -- a lane whose list stayed is another lane, and its allowance did not rise
  calm_lane : (y z : ℕ) → near b y z → on q (lane_from b.parents y z) ≡ on b.post (lane_from b.parents y z)
      → allow_on q (lane_from b.parents y z) ≤ allow_on b.post (lane_from b.parents y z)
  calm_lane y z h same =
      let k = lane_there b.parents y z h in
      let list : q.waiting k.0 ≡ b.post.waiting k.0 = ap (on q) (sym k.1) ∙ same ∙ ap (on b.post) k.1 in
      let d : k.0 ≡ l → ⊥ = λ i.
      let z = ap q.waiting (sym i) ∙ list ∙ ap b.post.waiting i ∙ p.waited in
      longer_list (q.waiting l) m z
      in
      omega (arith, ap (allow_on q) k.1, ap (allow_on b.post) k.1, p.calm k.0 d)

  pub taken : Taken b q to (arrival m from)
  taken =
      record {
        sound = p.sound;
        patience = p.patience;
        back = λ y h.
            ⊎_elim
            (λ (i : y ≡ from). subst (λ k. on b.post (lane_from b.parents k to) ≡ before (no k) (arrival m from) (on q (lane_from b.parents k to))) (sym i)
            (on_that_lane ∙ sym (before_here m from (on q (lane_from b.parents from to)))))
            (λ (i : y ≡ from → ⊥).
            sym (lane_other y to (λ e. i e.0) (neighbours_mutual b.parents y to ∙ h)) ∙ sym (before_there m from y _ i))
            (cases_eq y from);
        rest = λ y z d h. lane_other y z (λ e. d e.1) h;
        calm = λ y z h same _. calm_lane y z h same;
        under =
            fewer (under_way b) (under_way (with_post b q)) (privileges (q.waiting l)) (arrived (arrival m from)) (arrived (arrival m from))
            (ap (λ k. under_way (with_post b q) + k) (sym (privileges_first m (q.waiting l) from) ∙ ap privileges (sym p.waited))
            ∙ total_change lanes l (λ k. privileges (b.post.waiting k)) (λ k. privileges (q.waiting k)) (omega (arith, below, g.few))
            (λ k s i. ap privileges (p.others k i)))
            refl;
      }

  back_is : (edge (net_of b) to from).back ≡ m ∷ on q (lane_from b.parents from to)
  back_is = on_that_lane

  near_known : near_by (members_at b to) (no from) ≡ true
  near_known = g.members to from (omega (arith, to_below, g.few)) ∙ near_to

module _ (b : Bank PostModel) (g : Good b) (l from to : ℕ) (ends : ends_of b.parents l ≡ Some (from, to)) (q : PostModel) where
  request_welcome : Pulled b.post l REQUEST q → refused (near_by (members_at b to)) (model_at b to) (arrival REQUEST from) ≡ None
  request_welcome p =
      let d = request_due (edge (net_of b) to from) _ (g.edges to from (near_to b g l from to ends REQUEST q p)) (back_is b g l from to ends REQUEST q p) in
      cond-true _ _ _ (near_known b g l from to ends REQUEST q p)
      ∙ cond-false _ _ _
      (or_from _ _ (le-ltb 0 (times (Neighbour (no from)) (model_at b to).queue) (omega (arith, d.nobody)))
      (aim_away (same (Neighbour (no from)) (model_at b to).holder) (model_at b to).asked d.elsewhere))

  privilege_welcome : Pulled b.post l PRIVILEGE q → refused (near_by (members_at b to)) (model_at b to) (arrival PRIVILEGE from) ≡ None
  privilege_welcome p =
      let d = privilege_due (edge (net_of b) to from) _ (g.edges to from (near_to b g l from to ends PRIVILEGE q p)) (back_is b g l from to ends PRIVILEGE q p) in
      let a = aim_calling (same (Neighbour (no from)) (model_at b to).holder) (model_at b to).asked d in
      cond-true _ _ _ (near_known b g l from to ends PRIVILEGE q p) ∙ cond-true _ _ _ (and_from _ _ a.0 a.1)

  -- nothing that arrives is refused
  pub welcome : (m : Message) → Pulled b.post l m q → refused (near_by (members_at b to)) (model_at b to) (arrival m from) ≡ None
  welcome REQUEST p = request_welcome p
  welcome PRIVILEGE p = privilege_welcome p
