-- What a waiting cabinet owes is a measure of its wait.
use Rattle.std.proofs.Common.{◌≡◌, ℕ, ◌+◌, ◌<◌, ◌≤◌, Bool, true, false, cond, List, length, None, Option, Result, sym, refl, ap, ◌∙◌, subst, ⊎_elim, arith}
use Rattle.cable.specs.declared.number.CabinetNo.{CabinetNo}
use Rattle.cable.specs.declared.refusal.Refusal.{Refusal}
use Rattle.cabinet.specs.Kept.{near_by}
use Rattle.cabinet.specs.Models.{refused}
use Rattle.cabinet.specs.declared.event.Event.{Event}
use Rattle.cabinet.specs.declared.event.Event.TheVariants.{Want, Leave}
use Rattle.cabinet.specs.declared.event.Reaction.{Reaction}
use Rattle.post.specs.Posts.{PostModel}
use Rattle.promise.proofs.Clocks.{clock_owed}
use Rattle.promise.proofs.Goings.{Changed, changed, call_small, planted_already, plants_nothing}
use Rattle.promise.proofs.Good.{Good, Taken, members_at}
use Rattle.promise.proofs.Measures.{Waits, Moved, Measure}
use Rattle.promise.proofs.Orientation.{Rooted, rooted}
use Rattle.promise.proofs.Owing.{event_owed}
use Rattle.promise.proofs.Pledges.{owed_below}
use Rattle.promise.proofs.Reading.{Happened, happened, nothing_taken, good_over, reads_good, through_good}
use Rattle.promise.proofs.Spending.{At, fine_at, clock_at, through_on, ticked, sweep_drops}
use Rattle.promise.proofs.Stages.{world, allow_small}
use Rattle.promise.proofs.Sweeping.{Lasts, owes, lasted, event_lasts}
use Rattle.promise.specs.Banks.{Bank, any_post, with_waits}
use Rattle.promise.specs.Calls as calls
use Rattle.promise.specs.Calls.{Wants, Leaves, Sweeps}
use Rattle.promise.specs.Events.{Happens}
use Rattle.promise.specs.Records.{Call, want, leave, sweep, plant, Said, Step, plants, wants, leaves, sweeps, is_sweep, model_at}
use Rattle.promise.specs.Sweeps as lanes
use Rattle.promise.specs.Sweeps.{SweptLanes, Through, counted}
use Rattle.tree.specs.Trees.{ordered, lane_from, lanes_of}

module _ (ps : List CabinetNo) (grown : ordered 0 ps ≡ true) (G S w : ℕ) (r : Rooted ps w) where
  -- no more is owed after it, and stays last on
  record Steps (b : Bank PostModel) (since : ℕ → ℕ) (c : Bank PostModel) : Type 0 where
    then : ℕ → ℕ
    lasts : Lasts b since c then
    less : owes ps grown G S w r c then ≤ owes ps grown G S w r b since

  rests : (b : Bank PostModel) (since : ℕ → ℕ) → Steps b since b
  rests b since =
      record {
        then = since;
        lasts = record { kept = λ k _ _. refl; fresh = λ k i j. let z = sym i ∙ j in absurd (grind arith) };
        less = omega arith;
      }

  -- an event that comes with no message
  module _ (b : Bank PostModel) (a : At ps grown G S w r b) (since : ℕ → ℕ) (waits : Waits b w) (x : ℕ) (small : x < length b.parents) (e : Event)
      (t : Taken b b.post x e) where
    done_steps : (n : refused (near_by (members_at b x)) (model_at b x) e ≡ None) {c : Bank PostModel}
        → Happened b a.good b.post x small e t n c → Waits c w → Steps b since c
    done_steps n {c} h waits_then =
        let then : ℕ → ℕ = lasted b a.good b.post x small e t n c h since in
        record {
          then = then;
          lasts = event_lasts b a.good b.post x small e t n c h since;
          less =
              subst (λ F. owes ps grown F S w r c then ≤ owes ps grown F S w r b since) a.patience
              (subst
              (λ qs. (gr : ordered 0 qs ≡ true) (k : Rooted qs w)
              → owes qs gr (b.post.patience + 1) S w k c then ≤ owes qs gr (b.post.patience + 1) S w k b since) a.parents
              (λ gr k. event_owed b a.good b.post x small e t n since c.post c h.after.good h.posted h.here h.there h.after.parents refl S w k
              waits waits_then)
              grown r);
        }

    event_steps : {res : Result Reaction Refusal} {c : Bank PostModel} → Happens any_post b x e res c → Waits c w → Steps b since c
    event_steps {c = c} h k =
        ⊎_elim (λ s. subst (Steps b since) (sym s.1) (rests b since))
        (λ (s : Changed b c x e). done_steps s.free (happened b a.good b.post x small e t s.free h).1 k) (changed b a.good.all x e h)

  module _ (goal : w < length ps) (b : Bank PostModel) (a : At ps grown G S w r b) (since : ℕ → ℕ) (waits : Waits b w) where
    abbrev MovedBy : Call → Bank PostModel → Type 0
    MovedBy k c = Moved (owes ps grown G S w r) b since k c

    -- every call but a sweep
    by_steps : (k : Call) (c : Bank PostModel) → is_sweep k ≡ false → Steps b since c → MovedBy k c
    by_steps k c quiet s =
        let none : cond (is_sweep k) 1 0 ≡ 0 = ap (λ t. cond {A = ℕ} t 1 0) quiet in
        record {
          then = s.then;
          counts = record { kept = λ x i j. omega (arith, s.lasts.kept x i j, none); fresh = s.lasts.fresh };
          less = omega (arith, s.less, none);
        }

    wants_move : {n : ℕ} {res : Result Bool Refusal} {c : Bank PostModel} → Wants any_post b n res c → Waits c w → Steps b since c
    wants_move (calls.refused e) k = rests b since
    wants_move {n} (calls.done {c = c} e h) k =
        let s = event_steps b a since waits n (call_small b n e) Want (nothing_taken b n Want (λ _ _. refl) refl a.good) h k in
        record { then = s.then; lasts = record { kept = s.lasts.kept; fresh = s.lasts.fresh }; less = s.less }
    wants_move {n} (calls.inside e h) k =
        event_steps b a since waits n (call_small b n e) Want (nothing_taken b n Want (λ _ _. refl) refl a.good) h k

    leaves_move : {n : ℕ} {res : Result (Unit {0}) Refusal} {c : Bank PostModel} → Leaves any_post b n res c → Waits c w → Steps b since c
    leaves_move (calls.refused e) k = rests b since
    leaves_move {n} (calls.done e h) k =
        event_steps b a since waits n (call_small b n e) Leave (nothing_taken b n Leave (λ _ _. refl) refl a.good) h k
    leaves_move {n} (calls.inside e h) k =
        event_steps b a since waits n (call_small b n e) Leave (nothing_taken b n Leave (λ _ _. refl) refl a.good) h k

    module _ (room : (k : ℕ) → (model_at b k).inside ≡ true → since k + 1 ≤ S) where
      abbrev raised : Bank PostModel
      raised = with_waits b (counted b.views b.waits)

      raised_at : At ps grown G S w r raised
      raised_at =
          record {
            good = good_over b b.post (counted b.views b.waits) a.good a.good.sound (λ l. refl);
            parents = a.parents;
            patience = a.patience;
          }

      lanes_move : {res : Result (Option (ℕ × ℕ)) Refusal} {c : Bank PostModel} → SweptLanes any_post raised res c → Waits c w → MovedBy sweep c
      lanes_move (lanes.done {last = last} {c = c} through) k =
          let s =
          (through_on ps grown G S w r raised raised_at (ticked ps grown G S w r b a since waits goal room)
          (subst (λ qs. Through any_post raised (lanes_of qs) last c) a.parents through) (omega arith) k).1
          in
          record {
            then = s.then;
            counts = record { kept = λ x i j. s.lasts.kept x i j; fresh = λ x i j. s.lasts.fresh x i j };
            less = sweep_drops ps grown G S w r b a since waits goal room c
                (record { at = s.at; then = s.then; lasts = record { kept = s.lasts.kept; fresh = s.lasts.fresh }; in_stays = s.in_stays; less = s.less; clock = s.clock });
          }
      lanes_move (lanes.stopped {l = l} {c = c₁} through used reads) k =
          let g = through_good raised raised_at.good through (omega arith) in
          let d = (reads_good c₁ g.good l (subst (λ qs. l < lanes_of qs) (sym g.parents) used) reads).0.1 in
          absurd (grind arith)

      sweeps_move : {res : Result (Option (ℕ × ℕ)) Refusal} {c : Bank PostModel} → Sweeps any_post b res c → Waits c w → MovedBy sweep c
      sweeps_move (calls.refused e) k = let z = sym (planted_already b a.good) ∙ e in absurd (grind arith)
      sweeps_move (calls.swept e s) k = lanes_move s k

    pub step_moves : {k : Call} {res : Result Said Refusal} {c : Bank PostModel} → Step any_post b k res c → Waits c w
        → ((x : ℕ) → is_sweep k ≡ true → (model_at b x).inside ≡ true → since x + 1 ≤ S) → MovedBy k c
    step_moves (plants {ps = qs} {c = c} s) h room =
        by_steps (plant qs) c refl (subst (Steps b since) (sym (plants_nothing b a.good s).1) (rests b since))
    step_moves (wants {n = n} {c = c} s) h room = by_steps (want n) c refl (wants_move s h)
    step_moves (leaves {n = n} {c = c} s) h room = by_steps (leave n) c refl (leaves_move s h)
    step_moves (sweeps s) h room = sweeps_move (λ x i. room x refl i) s h

-- the measure of the wait of cabinet w, from bank a on
pub measure : (S w : ℕ) (a : Bank PostModel) → Good a → w < length a.parents → Measure S w a
measure S w a g goal =
    let r : Rooted a.parents w = rooted a.parents g.grown w goal in
    let G : ℕ = a.post.patience + 1 in
    record {
      owes = owes a.parents g.grown G S w r;
      below = λ since.
          owed_below a.parents g.grown G S w r (world a.parents (model_at a) a.post since)
          (λ y z h. allow_small a.post g.sound (lane_from a.parents y z)) goal;
      some = λ b since gb like waits.
          let at : At a.parents g.grown G S w r b = record { good = gb; parents = like.parents; patience = ap (λ k. k + 1) like.patience } in
          clock_owed a.parents g.grown G S w r (model_at b) b.post since (fine_at a.parents g.grown G S w r b at since waits)
          (clock_at a.parents g.grown G S w r b at since waits goal);
      moves = λ b c since k res gb like step waits waits_then room.
          let at : At a.parents g.grown G S w r b = record { good = gb; parents = like.parents; patience = ap (λ k. k + 1) like.patience } in
          step_moves a.parents g.grown G S w r goal b at since waits step waits_then room;
    }
