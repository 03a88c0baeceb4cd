-- A bank that was just planted is good.
use Rattle.std.proofs.Common.{◌≡◌, ℕ, zero, suc, ◌+◌, ◌<◌, ◌≤◌, true, false, cond, List, [], ◌∷◌, length, Some, None, Option, sym, refl, ap, ◌∙◌, subst, inl, ⊎_elim, arith}
use Rattle.std.proofs.lemmas.List.{get_or_past}
use Rattle.std.proofs.lemmas.Bool.{cases_Bool, cases_lt, cond-true, cond-false, or_cases, or_parts, and_parts, ltb-true, lt-ltb, and_from, eq-eqb, ne_eqb}
use Rattle.std.proofs.lemmas.Bool.Decides.{nat_tests}
use Rattle.cable.specs.Numbers.{lanes}
use Rattle.cable.specs.declared.message.Message.{Message}
use Rattle.cable.specs.declared.number.CabinetNo.{CabinetNo}
use Rattle.cabinet.proofs.Few.{few_neighbours, parent_known}
use Rattle.cabinet.proofs.Ghosts.{new_kept}
use Rattle.cabinet.specs.Kept as cabinet
use Rattle.cabinet.specs.Planted.{holder_in, planted_model}
use Rattle.cabinet.specs.Tables.{PlantedAs, blank}
use Rattle.cabinet.specs.Parties.{own, same, times}
use Rattle.cabinet.specs.declared.party.Party.{Party}
use Rattle.cabinet.specs.declared.party.Party.TheVariants.{Own, Neighbour}
use Rattle.post.specs.Posts.{PostModel, PostSound}
use Rattle.promise.proofs.Edges.{EdgeOk, away, quiet, ok_turned}
use Rattle.promise.proofs.Ends.{aim, ok_is}
use Rattle.promise.proofs.EventGood.{lane_there, lane_below}
use Rattle.promise.proofs.Good.{Good, on, net_of, near, members_at}
use Rattle.promise.proofs.Nets.{edge, no}
use Rattle.promise.proofs.Totals.{total_zero}
use Rattle.promise.specs.Banks.{Bank}
use Rattle.promise.specs.Calls.{any_of, busy_below}
use Rattle.promise.specs.Promise.{privileges, total}
use Rattle.promise.specs.Records.{model_at}
use Rattle.tree.proofs.Cables.{IsCable, cable_true, neighbours_mutual}
use Rattle.tree.proofs.InOrder.{parent_below}
use Rattle.tree.specs.Trees.{ordered, cable, has_cable, parent_of, tree_refusal, lane_from}

-- who the holder is, as planted
holder_parent : (ps : List CabinetNo) (k : ℕ) → has_cable ps k ≡ true → holder_in ps k ≡ Neighbour (record { 0 = parent_of ps k })
holder_parent ps k h = ap (λ t. elim (cond {A = Option CabinetNo} t (Some (record { 0 = parent_of ps k })) None) as (λ _. Party) [ None ↦ Own | Some p ↦ Neighbour p ]) h

holder_own : (ps : List CabinetNo) (k : ℕ) → has_cable ps k ≡ false → holder_in ps k ≡ Own
holder_own ps k h = ap (λ t. elim (cond {A = Option CabinetNo} t (Some (record { 0 = parent_of ps k })) None) as (λ _. Party) [ None ↦ Own | Some p ↦ Neighbour p ]) h

no_message : (ms : List Message) → any_of ms ≡ false → ms ≡ []
no_message [] e = refl
no_message (m ∷ ms) e = absurd (grind arith)

pub idle_below : (w : ℕ → List Message) (n : ℕ) → busy_below w n ≡ false → (l : ℕ) → l < n → w l ≡ []
idle_below w zero e l h = absurd (omega arith)
idle_below w (suc n) e l h =
    let parts = or_parts (any_of (w n)) (busy_below w n) e in
    ⊎_elim (λ (s : l < n). idle_below w n parts.1 l s)
    (λ (s : n ≤ l). let i : l ≡ n = omega arith in ap w i ∙ no_message (w n) parts.0) (cases_lt l n)

sum_one : {h u : ℕ} → h ≡ 1 → u ≡ 0 → h + u ≡ 1
sum_one a b = omega arith

one_root : (n : ℕ) (f : ℕ → ℕ) → 1 ≤ n → f 0 ≡ 1 → ((k : ℕ) → 0 < k → k < n → f k ≡ 0) → total n f ≡ 1
one_root zero f h r z = absurd (omega arith)
one_root (suc zero) f h r z = omega (arith, r)
one_root (suc (suc n)) f h r z = omega (arith, z (suc n) (omega arith) (omega arith), one_root (suc n) f (omega arith) r (λ k a b. z k a (omega arith)))

-- a cable that was just planted: the privilege lies toward the parent, and nothing else is known
near_aim : (ps : List CabinetNo) (x y : ℕ) → IsCable ps x y → aim (Neighbour (no y)) (planted_model ps x) ≡ quiet
near_aim ps x y c =
    let h : has_cable ps x ≡ true = and_from _ _ (lt-ltb 0 x c.some) (lt-ltb x (length ps) c.within) in
    cond-true _ _ _ (ap (same (Neighbour (no y))) (holder_parent ps x h) ∙ eq-eqb y (parent_of ps x) (sym c.parent))

far_aim : (ps : List CabinetNo) (x y : ℕ) → ordered 0 ps ≡ true → IsCable ps x y → aim (Neighbour (no x)) (planted_model ps y) ≡ away
far_aim ps x y o c =
    ⊎_elim
    (λ (h : has_cable ps y ≡ true).
    let p = and_parts _ _ h in
    let low : parent_of ps y < y = parent_below ps o y (ltb-true 0 y p.0) (ltb-true y (length ps) p.1) in
    let lower : parent_of ps x < x = parent_below ps o x c.some c.within in
    cond-false _ _ _ (ap (same (Neighbour (no x))) (holder_parent ps y h) ∙ ne_eqb x (parent_of ps y) (λ i. omega (arith, c.parent))))
    (λ (h : has_cable ps y ≡ false). cond-false _ _ _ (ap (same (Neighbour (no x))) (holder_own ps y h))) (cases_Bool (has_cable ps y))

module _ (b : Bank PostModel) (good : tree_refusal b.parents ≡ None) (views : PlantedAs b.parents b.views) (sound : PostSound b.post)
    (idle : (l : ℕ) → l < lanes → b.post.waiting l ≡ []) where
  tree_parts : ((1 ≤ length b.parents) × (length b.parents ≤ 16)) × (ordered 0 b.parents ≡ true)
  tree_parts = grind (arith, nat_tests)

  grown : ordered 0 b.parents ≡ true
  grown = tree_parts.1

  few : length b.parents ≤ 16
  few = tree_parts.0.1

  nothing_on : (x y : ℕ) → near b x y → on b.post (lane_from b.parents x y) ≡ []
  nothing_on x y h =
      let l = lane_there b.parents x y h in
      ap (on b.post) l.1 ∙ idle l.0 (omega (arith, lane_below b.parents x y l.0 l.1, few))

  cabinet_is : (k : ℕ) → k < length b.parents → model_at b k ≡ planted_model b.parents k
  cabinet_is k s = views.models k (omega (arith, few))

  cable_ok : (x y : ℕ) → near b x y → near b y x → IsCable b.parents x y → EdgeOk (edge (net_of b) x y)
  cable_ok x y h h' c =
      let mx = cabinet_is x c.within in
      let my = cabinet_is y (omega (arith, c.within, c.parent, parent_below b.parents grown x c.some c.within)) in
      ok_is (record { near = quiet; far = away; here = 0; there = 0; out = []; back = [] }) (edge (net_of b) x y)
      (sym (ap (aim (Neighbour (no y))) mx ∙ near_aim b.parents x y c)) (sym (ap (aim (Neighbour (no x))) my ∙ far_aim b.parents x y grown c))
      (sym (ap (λ m. times (Neighbour (no y)) m.queue) mx)) (sym (ap (λ m. times (Neighbour (no x)) m.queue) my))
      (sym (nothing_on x y h)) (sym (nothing_on y x h')) (inl (inl (refl, refl, refl, refl, refl, refl)))

  edges : (x y : ℕ) → near b x y → EdgeOk (edge (net_of b) x y)
  edges x y h =
      let h' : near b y x = neighbours_mutual b.parents y x ∙ h in
      ⊎_elim (λ (c : cable b.parents x y ≡ true). cable_ok x y h h' (cable_true b.parents x y c))
      (λ (c : cable b.parents y x ≡ true). ok_turned (edge (net_of b) y x) (cable_ok y x h' h (cable_true b.parents y x c)))
      (or_cases (cable b.parents x y) (cable b.parents y x) h)

  root_holds : cond {A = ℕ} (own (model_at b 0).holder) 1 0 ≡ 1
  root_holds =
      cond-true _ _ _ (ap (λ m. own m.holder) (cabinet_is 0 (omega (arith, tree_parts.0.0))) ∙ ap own (holder_own b.parents 0 refl))

  none_other : (k : ℕ) → 0 < k → k < length b.parents → cond {A = ℕ} (own (model_at b k).holder) 1 0 ≡ 0
  none_other k s w =
      cond-false _ _ _
      (ap (λ m. own m.holder) (cabinet_is k w) ∙ ap own (holder_parent b.parents k (and_from _ _ (lt-ltb 0 k s) (lt-ltb k (length b.parents) w))))

  pub planted_good : Good b
  planted_good =
      record {
        sound = sound;
        grown = grown;
        some = tree_parts.0.0;
        few = few;
        all = views.all;
        members = λ k n s. views.near k n s;
        kept = λ k s.
            subst (cabinet.Kept (members_at b k)) (sym (cabinet_is k s))
            (new_kept (members_at b k) (holder_in b.parents k)
            (few_neighbours b.parents grown few (members_at b k) k (λ n. views.near k n (omega (arith, few))) (omega (arith, few)))
            (parent_known b.parents grown few (members_at b k) k (λ n. views.near k n (omega (arith, few)))));
        edges = edges;
        one =
            sum_one (one_root (length b.parents) (λ k. cond (own (model_at b k).holder) 1 0) tree_parts.0.0 root_holds none_other)
            (total_zero lanes (λ l. privileges (b.post.waiting l)) (λ l s. ap privileges (idle l s)));
        outside = λ k far.
            ⊎_elim (λ (s : k < 16). ap (λ m. m.inside) (views.models k s))
            (λ (s : 16 ≤ k). ap (λ v. v.model.inside) (get_or_past b.views k blank (omega (arith, views.all)))) (cases_lt k 16);
      }
