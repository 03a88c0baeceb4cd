-- An event that is not refused is done whole, and leaves a bank of which all holds again.
use Rattle.std.proofs.Common.{◌≡◌, ℕ, ◌+◌, ◌<◌, ◌≤◌, Bool, true, false, cond, ltb, List, ◌++◌, length, get_or, set, is_some, Some, None, Ok, Err, Option, Result, sym, refl, ap, ◌∙◌, subst, ⊎_elim, arith}
use Rattle.std.proofs.lemmas.List.{append-nil, append_assoc, get_or-set_same, get_or-set_other, length-set}
use Rattle.std.proofs.lemmas.Bool.{cases_eq, cond-true, lt-ltb, ltb-true}
use Rattle.cable.specs.declared.number.CabinetNo.{CabinetNo}
use Rattle.cable.specs.declared.refusal.Refusal.{Refusal}
use Rattle.cabinet.proofs.Keeping.{event_keeps, acted_once, served_known, asked_known}
use Rattle.cabinet.specs.Kept as cabinet
use Rattle.cabinet.specs.Kept.{knows, near_by}
use Rattle.cabinet.specs.Laws.{sent}
use Rattle.cabinet.specs.Models.{Model, refused, acted, served, assigned, asks, stepped}
use Rattle.cabinet.specs.Reactions.{reaction}
use Rattle.cabinet.specs.Tables.{blank, after, answer_at, after_at}
use Rattle.cabinet.specs.declared.event.Event.{Event}
use Rattle.cabinet.specs.declared.event.Event.TheVariants.{Want, Leave, Request, Privilege}
use Rattle.cabinet.specs.declared.party.Party.TheVariants.{Neighbour}
use Rattle.post.specs.Posts.{PostModel}
use Rattle.promise.proofs.Balance.{mine, arrived, passes, event_balance}
use Rattle.promise.proofs.Edges.{EdgeView, EdgeOk}
use Rattle.promise.proofs.Ends.{Due, before, passed, called}
use Rattle.promise.proofs.Good.{Good, Taken, on, net_of, near, members_at}
use Rattle.promise.proofs.Nets.{EventAt, no, event_in_order}
use Rattle.promise.proofs.Posting.{Arranged, Room}
use Rattle.promise.proofs.Sending.{elsewhere, sent_to, sent_few, sent_privileges, sent_all}
use Rattle.promise.proofs.Totals.{total_change}
use Rattle.promise.specs.Banks.{Bank, with_post}
use Rattle.promise.specs.Promise.{holding, under_way}
use Rattle.promise.specs.Records.{model_at}
use Rattle.tree.proofs.Cables.{lane_ends, lane_once, neighbours_lane, neighbours_mutual, neighbours_other}
use Rattle.tree.specs.Trees.{neighbours, lane_from, lanes_of}

some_of : (o : Option ℕ) → is_some o ≡ true → (l : ℕ) × (o ≡ Some l)
some_of None e = absurd (grind arith)
some_of (Some l) e = (l, refl)

-- neighbours have a lane, which is in use
pub lane_there : (ps : List CabinetNo) (x y : ℕ) → neighbours ps x y ≡ true → (l : ℕ) × (lane_from ps x y ≡ Some l)
lane_there ps x y h = some_of (lane_from ps x y) (neighbours_lane ps x y ∙ h)

in_use : (t : Bool) (w : ℕ × ℕ) (o : ℕ × ℕ) → cond {A = Option (ℕ × ℕ)} t (Some w) None ≡ Some o → t ≡ true
in_use true w o e = refl
in_use false w o e = absurd (grind arith)

pub lane_below : (ps : List CabinetNo) (x y l : ℕ) → lane_from ps x y ≡ Some l → l < lanes_of ps
lane_below ps x y l at = ltb-true l (lanes_of ps) (in_use (ltb l (lanes_of ps)) _ _ (lane_ends ps x y l at))

pub due_of : (bs : List Bool) (m : Model) (e : Event) → refused (near_by bs) m e ≡ None → Due m e
due_of bs m Want n = tt
due_of bs m Leave n = tt
due_of bs m (Request v) n = tt
due_of bs m (Privilege v) n = grind arith

out_few : (v : EdgeView) → EdgeOk v → length v.out ≤ 2
out_few v ok = grind arith

one_left : (hb hc ub up uc own own' pass came : ℕ) → hc + own ≡ hb + own' → ub ≡ up + came → uc ≡ up + pass → own' + pass ≡ own + came
    → hb + ub ≡ 1 → hc + uc ≡ 1
one_left hb hc ub up uc own own' pass came a b c d e = omega arith

module _ (b : Bank PostModel) (g : Good b) (p : PostModel) (x : ℕ) (small : x < length b.parents) (e : Event) (t : Taken b p x e)
    (n : refused (near_by (members_at b x)) (model_at b x) e ≡ None) where
  abbrev here : Model
  here = model_at b x

  below_16 : x < 16
  below_16 = omega (arith, g.few)

  not_itself : near b x x → ⊥
  not_itself h = let z = sym (neighbours_other b.parents g.grown x) ∙ h in absurd (grind arith)

  other : (y : ℕ) → near b x y → y ≡ x → ⊥
  other y h i = not_itself (subst (near b x) i h)

  known_near : (v : CabinetNo) → knows (members_at b x) (Neighbour v) ≡ true → near b x v.0
  known_near v h = sym (g.members x v.0 below_16) ∙ h

  pub answers : answer_at b.views x e ≡ Ok (reaction here e)
  answers =
      cond-true _ _ _ (lt-ltb x 16 below_16)
      ∙ ap (λ o. elim o as (λ _. Result _ Refusal) [ None ↦ Ok (reaction here e) | Some why ↦ Err why ]) n

  -- there is room for what is sent
  pub room : Room b.parents x p (sent (reaction here e))
  room =
      record {
        lanes_there =
            sent_all (λ v. (l : ℕ) × (lane_from b.parents x v.0 ≡ Some l)) (served (acted here e)) (asks (assigned (acted here e)))
            (λ v s. lane_there b.parents x v.0
            (known_near v (served_known (members_at b x) here (g.kept x small) e n (Neighbour v) s)))
            (λ v s. lane_there b.parents x v.0 (known_near v (asked_known (members_at b x) here (g.kept x small) e n v s)));
        numbers = λ y l at. omega (arith, lane_below b.parents x y l at, g.few);
        space = λ y l at.
            let h : near b x y = sym (neighbours_lane b.parents x y) ∙ ap is_some at in
            let same : p.waiting l ≡ b.post.waiting l
            = ap (on p) (sym at) ∙ t.rest x y (other y h) h ∙ ap (on b.post) at
            in
            omega
            (arith, ap length same, out_few _ (g.edges x y h), ap (λ o. length (on b.post o)) at, sent_few (served (acted here e)) (asks (assigned (acted here e))));
      }

  -- what the table holds then
  module _ (q : PostModel) (ws : List ℕ) (r : Arranged b.parents x p (sent (reaction here e)) q) where
    abbrev pub then_bank : Bank PostModel
    then_bank = record { parents = b.parents; views = after_at b.views x e; waits = ws; post = q }

    written : after_at b.views x e ≡ set b.views x (after (get_or b.views x blank) e)
    written = cond-true _ _ _ (lt-ltb x 16 below_16)

    view_here : get_or (after_at b.views x e) x blank ≡ after (get_or b.views x blank) e
    view_here = ap (λ vs. get_or vs x blank) written ∙ get_or-set_same b.views x _ blank (omega (arith, below_16, g.all))

    view_there : (k : ℕ) → (k ≡ x → ⊥) → get_or (after_at b.views x e) k blank ≡ get_or b.views k blank
    view_there k d = ap (λ vs. get_or vs k blank) written ∙ get_or-set_other b.views x k _ blank d

    pub model_here : model_at then_bank x ≡ stepped here e
    model_here = ap (λ v. v.model) view_here ∙ ap (λ o. elim o as (λ _. Model) [ None ↦ stepped here e | Some why ↦ here ]) n

    pub model_there : (k : ℕ) → (k ≡ x → ⊥) → model_at then_bank k ≡ model_at b k
    model_there k d = ap (λ v. v.model) (view_there k d)

    members_same : (k : ℕ) → members_at then_bank k ≡ members_at b k
    members_same k =
        ⊎_elim (λ (i : k ≡ x). subst (λ j. members_at then_bank j ≡ members_at b j) (sym i) (ap (λ v. v.members) view_here))
        (λ (i : k ≡ x → ⊥). ap (λ v. v.members) (view_there k i)) (cases_eq k x)

    -- a lane that does not start at x has nothing new
    not_from_here : (y z l : ℕ) → (y ≡ x → ⊥) → lane_from b.parents y z ≡ Some l → q.waiting l ≡ p.waiting l
    not_from_here y z l d at =
        r.waiting l
        ∙ ap (λ ms. p.waiting l ++ ms)
        (elsewhere b.parents x l (λ v from_x. d (lane_once b.parents y z x v l at from_x).0) (sent (reaction here e)))
        ∙ append-nil (p.waiting l)

    still_on : (y z : ℕ) → (y ≡ x → ⊥) → near b y z → on q (lane_from b.parents y z) ≡ on p (lane_from b.parents y z)
    still_on y z d h =
        let l = lane_there b.parents y z h in
        ap (on q) l.1 ∙ not_from_here y z l.0 d l.1 ∙ ap (on p) (sym l.1)

    happened : EventAt (near b) (net_of b) x e (net_of then_bank)
    happened =
        record {
          self = model_here;
          others = model_there;
          out = λ y h.
              let l = lane_there b.parents x y h in
              ap (on q) l.1 ∙ r.waiting l.0
              ∙ ap (λ ms. p.waiting l.0 ++ ms) (sent_to b.parents x y l.0 l.1 (served (acted here e)) (asks (assigned (acted here e))))
              ∙ sym (append_assoc (p.waiting l.0) _ _)
              ∙ ap (λ w. (w ++ passed (no y) (served (acted here e))) ++ called (no y) (asks (assigned (acted here e))))
              (ap (on p) (sym l.1) ∙ t.rest x y (other y h) h);
          back = λ y h.
              t.back y h
              ∙ ap (before (no y) e) (sym (still_on y x (other y h) (neighbours_mutual b.parents y x ∙ h)));
          rest = λ y z dy dz h. still_on y z dy h ∙ t.rest y z dz h;
        }

    pub event_good : Good then_bank
    event_good =
        record {
          sound = r.sound;
          grown = g.grown;
          some = g.some;
          few = g.few;
          all = ap length written ∙ length-set b.views x _ ∙ g.all;
          members = λ k i s. ap (λ bs. get_or bs i false) (members_same k) ∙ g.members k i s;
          kept = λ k s.
              ⊎_elim
              (λ (i : k ≡ x). subst (λ j. cabinet.Kept (members_at then_bank j) (model_at then_bank j)) (sym i)
              (subst (λ bs. cabinet.Kept bs (model_at then_bank x)) (sym (members_same x))
              (subst (cabinet.Kept (members_at b x)) (sym model_here) (event_keeps (members_at b x) here e (g.kept x small) n))))
              (λ (i : k ≡ x → ⊥). subst (λ bs. cabinet.Kept bs (model_at then_bank k)) (sym (members_same k))
              (subst (cabinet.Kept (members_at b k)) (sym (model_there k i)) (g.kept k s)))
              (cases_eq k x);
          edges =
              event_in_order (near b) (λ y h. let z = sym (neighbours_other b.parents g.grown y) ∙ h in absurd (grind arith))
              (λ y z h. neighbours_mutual b.parents z y ∙ h) (net_of b) (net_of then_bank) x e (due_of (members_at b x) here e n)
              (λ y. acted_once (members_at b x) here (g.kept x small) e n (Neighbour (no y))) happened g.edges;
          one =
              one_left (holding b) (holding then_bank) (under_way b) (under_way (with_post b p)) (under_way then_bank) (mine here) (mine (stepped here e))
              (passes (served (acted here e))) (arrived e)
              (total_change (length b.parents) x (λ k. mine (model_at b k)) (λ k. mine (model_at then_bank k)) small
              (λ k s i. ap mine (model_there k i))
              ∙ ap (λ m. holding b + mine m) model_here)
              t.under
              (r.under ∙ ap (λ k. under_way (with_post b p) + k) (sent_privileges (served (acted here e)) (asks (assigned (acted here e)))))
              (event_balance here e (due_of (members_at b x) here e n)) g.one;
          outside = λ k far. ap (λ m. m.inside) (model_there k (λ i. omega arith)) ∙ g.outside k far;
        }
