-- Events, lanes and sweeps, from one good bank to the next: none of them stops halfway.
use Rattle.std.proofs.Common.{◌≡◌, ℕ, ◌+◌, ◌<◌, ◌≤◌, List, length, Some, None, Ok, Err, Option, Result, sym, refl, ap, ◌∙◌, subst, arith}
use Rattle.cable.specs.Numbers.{lanes}
use Rattle.cable.specs.declared.message.Message.{Message}
use Rattle.cable.specs.declared.number.CabinetNo.{CabinetNo}
use Rattle.cable.specs.declared.refusal.Refusal.{Refusal}
use Rattle.cabinet.specs.Kept.{near_by}
use Rattle.cabinet.specs.Laws.{sent}
use Rattle.cabinet.specs.Models.{refused, stepped}
use Rattle.cabinet.specs.Reactions.{reaction}
use Rattle.cabinet.specs.Tables.{answer_at}
use Rattle.cabinet.specs.declared.event.Event.{Event}
use Rattle.cabinet.specs.declared.event.Reaction.{Reaction}
use Rattle.post.specs.Posts.{PostModel, PostSound}
use Rattle.promise.proofs.Arriving.{pulled, came_empty, not_refused, to_below, taken, welcome}
use Rattle.promise.proofs.EventGood.{answers, room, event_good, model_here, model_there}
use Rattle.promise.proofs.Ends.{before, ok_is}
use Rattle.promise.proofs.Balance.{arrived}
use Rattle.promise.proofs.Good.{Good, Taken, on, members_at}
use Rattle.promise.proofs.Posting.{posted_arranged, posted_ok}
use Rattle.promise.proofs.Totals.{total_same}
use Rattle.promise.specs.Banks.{Bank, any_post, with_post, with_waits}
use Rattle.promise.specs.Events.{Happens, Posted, refused as Turned-down, done, stopped}
use Rattle.promise.specs.Promise.{privileges, holding}
use Rattle.promise.specs.Records.{model_at}
use Rattle.promise.specs.Sweeps as sweeps
use Rattle.promise.specs.Sweeps.{Reads, Through, arrival, entering, nothing, brings, begun, further}
use Rattle.tree.specs.Trees.{lane_from, lanes_of}

-- the bank after what was done, and how it is tied to the one before
pub record After (b c : Bank PostModel) : Type 0 where
  pub good : Good c
  pub parents : c.parents ≡ b.parents
  pub patience : c.post.patience ≡ b.post.patience

-- for an event that nothing arrives with, nothing is taken from the post
pub nothing_taken : (b : Bank PostModel) (x : ℕ) (e : Event) → ((n : CabinetNo) (ms : List Message) → before n e ms ≡ ms) → arrived e ≡ 0
    → Good b → Taken b b.post x e
nothing_taken b x e none nil g =
    record {
      sound = g.sound;
      patience = refl;
      back = λ y h. sym (none _ _);
      rest = λ y z d h. refl;
      under = omega (arith, nil);
      calm = λ y z h same some. omega arith;
    }

module _ (b : Bank PostModel) (g : Good b) (p : PostModel) (x : ℕ) (small : x < length b.parents) (e : Event) (t : Taken b p x e)
    (n : refused (near_by (members_at b x)) (model_at b x) e ≡ None) where
  abbrev what : Reaction
  what = reaction (model_at b x) e

  same_answer : {a : Reaction} → answer_at b.views x e ≡ Ok a → a ≡ what
  same_answer {a} eq = let z = sym (answers b g p x small e t n) ∙ eq in let is : a ≡ what = cc in is

  -- what an event that is done leaves, whole
  pub record Happened (c : Bank PostModel) : Type 0 where
    pub posted : Posted any_post b.parents x p (sent (reaction (model_at b x) e)) (Ok tt) c.post
    pub here : model_at c x ≡ stepped (model_at b x) e
    pub there : (k : ℕ) → (k ≡ x → ⊥) → model_at c k ≡ model_at b k
    pub after : After b c

  -- an event that the cabinet does not refuse is done
  pub happened : {r : Result Reaction Refusal} {c : Bank PostModel} → Happens any_post (with_post b p) x e r c → (r ≡ Ok what) × Happened c
  happened (Turned-down eq) = let z = sym (answers b g p x small e t n) ∙ eq in absurd (grind arith)
  happened (done {a = a} {p = q} eq posted) =
      let is : a ≡ what = same_answer eq in
      let sends : Posted any_post b.parents x p (sent what) (Ok tt) q = subst (λ v. Posted any_post b.parents x p (sent v) (Ok tt) q) is posted in
      let arranged = posted_arranged b.parents x t.sound sends refl in (
        ap Ok is,
        record {
          posted = sends;
          here = model_here b g p x small e t n q b.waits arranged;
          there = model_there b g p x small e t n q b.waits arranged;
          after =
              record {
                good = event_good b g p x small e t n q b.waits arranged;
                parents = refl;
                patience = arranged.patience ∙ t.patience;
              };
        },
      )
  happened (stopped {a = a} {why = why} {p = q} eq posted) =
      let is : a ≡ what = same_answer eq in
      let z = posted_ok b.parents x t.sound (room b g p x small e t n) (subst (λ v. Posted any_post b.parents x p (sent v) (Err why) q) is posted) in
      absurd (grind arith)

  pub happens_done : {r : Result Reaction Refusal} {c : Bank PostModel} → Happens any_post (with_post b p) x e r c → (r ≡ Ok what) × After b c
  happens_done h = let d = happened h in (d.0, d.1.after)

-- the counts of waits may change, and the post in what no list shows
pub good_over : (b : Bank PostModel) (p : PostModel) (ws : List ℕ) → Good b → PostSound p → ((l : ℕ) → p.waiting l ≡ b.post.waiting l)
    → Good (with_post (with_waits b ws) p)
good_over b p ws g sound same =
    let lists : (o : Option ℕ) → on p o ≡ on b.post o = λ o. by_lane o in
    record {
      sound = sound;
      grown = g.grown;
      some = g.some;
      few = g.few;
      all = g.all;
      members = g.members;
      kept = g.kept;
      edges = λ x y h. ok_is _ _ refl refl refl refl (sym (lists (lane_from b.parents x y))) (sym (lists (lane_from b.parents y x))) (g.edges x y h);
      one =
          ap (λ k. holding b + k) (total_same lanes (λ l. privileges (b.post.waiting l)) (λ l. privileges (p.waiting l)) (λ l s. ap privileges (same l))) ∙ g.one;
      outside = g.outside;
    }
  where
    by_lane : (o : Option ℕ) → on p o ≡ on b.post o
    by_lane None = refl
    by_lane (Some l) = same l

module _ (b : Bank PostModel) (g : Good b) (l : ℕ) (used : l < lanes_of b.parents) where
  pub below_30 : l < lanes
  below_30 = omega (arith, used, g.few)

  -- one lane is read to the end
  pub reads_good : {r : Result (Option ℕ) Refusal} {c : Bank PostModel} → Reads any_post b l r c → ((went : Option ℕ) × (r ≡ Ok went)) × After b c
  reads_good (sweeps.refused {why = why} {p = q} s) = absurd (not_refused b.post l q g.sound below_30 why s)
  reads_good (nothing {p = q} s) =
      let u = came_empty b.post l q g.sound below_30 s in
      ((None, refl), record { good = good_over b q b.waits g u.sound u.waiting; parents = refl; patience = u.patience })
  reads_good (brings {m = m} {p = q} {from = from} {to = to} {r = r} {c = c} s ends h) =
      let u = pulled b.post l q g.sound below_30 m s in
      let d = happens_done b g q to (to_below b g l from to ends m q u) (arrival m from) (taken b g l from to ends m q u) (welcome b g l from to ends q m u) h in
      ((_, ap (entering to) d.0), d.1)

-- all lanes up to some number are read
pub through_good : (b : Bank PostModel) → Good b → {l : ℕ} {last : Option ℕ} {c : Bank PostModel} → Through any_post b l last c → l ≤ lanes_of b.parents → After b c
through_good b g begun h = record { good = g; parents = refl; patience = refl }
through_good b g (further {l = l} {c = c} before now) h =
    let a = through_good b g before (omega arith) in
    let d = (reads_good c a.good l (subst (λ ps. l < lanes_of ps) (sym a.parents) h) now).1 in
    record { good = d.good; parents = d.parents ∙ a.parents; patience = d.patience ∙ a.patience }
