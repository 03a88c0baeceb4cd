-- One lane, its sender and its receiver, as a post means it: its list, its allowance and its limits after a new message and after a round.
use Rattle.std.proofs.Common.{◌≡◌, ℕ, ◌+◌, ◌*◌, ◌<◌, ◌≤◌, Bool, true, false, cond, ◌⊎◌, List, [], ◌∷◌, ◌++◌, length, Some, None, Ok, Option, Result, sym, refl, ap, ◌∙◌, subst, inl, inr, ⊎_elim, mul-le-mul_right, suc-mul, mul-le-mul, mul-one, mul-add, arith}
use Rattle.std.proofs.lemmas.List.{length_push}
use Rattle.cable.specs.Rows.{oldest, rest}
use Rattle.cable.specs.declared.frame.Bit.{Bit}
use Rattle.cable.specs.declared.frame.Bit.TheVariants.{Zero, One}
use Rattle.cable.specs.declared.message.Message.{Message}
use Rattle.cable.specs.declared.refusal.Refusal.{Refusal}
use Rattle.alternating.proofs.Receiving.{delivered, next}
use Rattle.alternating.proofs.Rounding.{Outcome, frame_lost, answer_lost, both_through}
use Rattle.alternating.specs.Lanes.{LaneModel, LaneSound, fresh, same, waiting_in, added}
use Rattle.alternating.specs.Retry.{allowance_of, patience_over}

-- a new lane
pub fresh_sound : LaneSound fresh
fresh_sound = record { idle = λ _. refl; level = λ _. refl; few = omega arith }

abbrev lane_with : Option Message → List Message → Bit → Bit → LaneModel
lane_with o behind b e = record { outstanding = o; behind = behind; sending = b; expected = e }

-- the allowance by whether the outstanding message is accepted
abbrev allowed : Option Message → Bool → ℕ → ℕ → ℕ → ℕ
allowed o level M f g = elim o [ None ↦ 0 | Some x ↦ cond level f (g * (M + 1) + f + 1 + M) ]

allowed_bound : (o : Option Message) (level : Bool) (M f g : ℕ) → f ≤ M → g ≤ M → allowed o level M f g ≤ patience_over M
allowed_bound None level M f g hf hg = omega arith
allowed_bound (Some x) true M f g hf hg = omega arith
allowed_bound (Some x) false M f g hf hg = omega (arith, mul-le-mul_right (M + 1) hg, mul-add M M 1, mul-one M)

allowed_mono : (o : Option Message) (level : Bool) (M f g f' g' : ℕ) → f' ≤ f → g' ≤ g → allowed o level M f' g' ≤ allowed o level M f g
allowed_mono None level M f g f' g' hf hg = omega arith
allowed_mono (Some x) true M f g f' g' hf hg = omega arith
allowed_mono (Some x) false M f g f' g' hf hg = omega (arith, mul-le-mul_right (M + 1) hg)

pub allowance_bound : (m : LaneModel) (M f g : ℕ) → f ≤ M → g ≤ M → allowance_of m M f g ≤ patience_over M
allowance_bound m M f g hf hg = allowed_bound m.outstanding (same m.sending m.expected) M f g hf hg

pub allowance_mono : (m : LaneModel) (M f g f' g' : ℕ) → f' ≤ f → g' ≤ g → allowance_of m M f' g' ≤ allowance_of m M f g
allowance_mono m M f g f' g' hf hg = allowed_mono m.outstanding (same m.sending m.expected) M f g f' g' hf hg

pub patience_small : (M : ℕ) → M ≤ 15 → patience_over M ≤ 65535
patience_small M h = omega (arith, mul-le-mul h h)

-- a new message
added_waits : (o : Option Message) (behind : List Message) (b e : Bit) (x : Message) → LaneSound (lane_with o behind b e)
    → waiting_in (added x (lane_with o behind b e)) ≡ waiting_in (lane_with o behind b e) ++ x ∷ []
added_waits None behind b e x s = rw (s.level refl, s.idle refl)
added_waits (Some y) behind Zero Zero x s = refl
added_waits (Some y) behind Zero One x s = refl
added_waits (Some y) behind One Zero x s = refl
added_waits (Some y) behind One One x s = refl

added_idle : (o : Option Message) (behind : List Message) (b e : Bit) (x : Message) → (added x (lane_with o behind b e)).outstanding ≡ None → ⊥
added_idle None behind b e x h = grind arith
added_idle (Some y) behind b e x h = grind arith

added_allows : (o : Option Message) (behind : List Message) (b e : Bit) (x : Message) (M f g : ℕ)
    → (waiting_in (lane_with o behind b e) ≡ [] → ⊥) → allowance_of (added x (lane_with o behind b e)) M f g ≤ allowance_of (lane_with o behind b e) M f g
added_allows None behind b e x M f g some = absurd (some refl)
added_allows (Some y) behind b e x M f g some = omega arith

module _ (m : LaneModel) (x : Message) where
  pub waiting_added : LaneSound m → waiting_in (added x m) ≡ waiting_in m ++ x ∷ []
  waiting_added s = added_waits m.outstanding m.behind m.sending m.expected x s

  pub sound_added : LaneSound m → length (waiting_in m) < 4 → LaneSound (added x m)
  sound_added s room =
      record {
        idle = λ h. absurd (added_idle m.outstanding m.behind m.sending m.expected x h);
        level = λ h. absurd (added_idle m.outstanding m.behind m.sending m.expected x h);
        few = omega (arith, ap length (waiting_added s), length_push (waiting_in m) x);
      }

  pub allowance_added : (M f g : ℕ) → (waiting_in m ≡ [] → ⊥) → allowance_of (added x m) M f g ≤ allowance_of m M f g
  allowance_added M f g some = added_allows m.outstanding m.behind m.sending m.expected x M f g some

-- a lane whose message was delivered, and one whose answer came
delivered_waits : (x : Message) (behind : List Message) (b : Bit) → waiting_in (delivered x behind b) ≡ behind
delivered_waits x behind Zero = refl
delivered_waits x behind One = refl

next_waits : (behind : List Message) (b : Bit) → waiting_in (next behind b) ≡ behind
next_waits [] b = refl
next_waits (y ∷ ys) Zero = refl
next_waits (y ∷ ys) One = refl

delivered_allows : (x : Message) (behind : List Message) (b : Bit) (M f g : ℕ)
    → allowance_of (delivered x behind b) M f g ≡ g * (M + 1) + f + 1 + M
delivered_allows x behind Zero M f g = refl
delivered_allows x behind One M f g = refl

next_allows : (behind : List Message) (b : Bit) (M f g : ℕ) → allowance_of (next behind b) M f g ≤ f
next_allows [] b M f g = omega arith
next_allows (y ∷ ys) Zero M f g = omega arith
next_allows (y ∷ ys) One M f g = omega arith

delivered_sound : (x : Message) (behind : List Message) (b : Bit) → length behind ≤ 4 → LaneSound (delivered x behind b)
delivered_sound x behind b h =
    record { idle = λ e. absurd (grind arith); level = λ e. absurd (grind arith); few = omega (arith, ap length (delivered_waits x behind b)) }

next_idle : (behind : List Message) → oldest behind ≡ None → rest behind ≡ []
next_idle [] e = refl
next_idle (y ∷ ys) e = absurd (grind arith)

same_same : (b : Bit) → same b b ≡ true
same_same Zero = refl
same_same One = refl

next_sound : (behind : List Message) (b : Bit) → length behind ≤ 4 → LaneSound (next behind b)
next_sound behind b h =
    record { idle = next_idle behind; level = λ e. same_same _; few = omega (arith, ap length (next_waits behind b)) }

behind_few : (x : Message) (behind : List Message) (level : Bool) → length (cond level (x ∷ behind) behind) ≤ 4 → length behind ≤ 4
behind_few x behind true h = omega arith
behind_few x behind false h = h

-- the pull that gave the oldest message, or gave nothing and used some of the allowance
pub record Gave (y : Message) (ys : List Message) (r : Result (Option Message) Refusal) (n : LaneModel) : Type 0 where
  pub given : r ≡ Ok (Some y)
  pub rest : waiting_in n ≡ ys

pub record Held (m : LaneModel) (r : Result (Option Message) Refusal) (n : LaneModel) (before after : ℕ) : Type 0 where
  pub nothing : r ≡ Ok None
  pub stays : waiting_in n ≡ waiting_in m
  pub falls : after < before

module _ (x : Message) (behind : List Message) (b e : Bit) (M f g f' g' : ℕ) (r : Result (Option Message) Refusal) (n : LaneModel) where
  abbrev m : LaneModel
  m = lane_with (Some x) behind b e

  pub outcome_sound : LaneSound m → Outcome x behind b e M f g f' g' r n → LaneSound n
  outcome_sound s (frame_lost is lane hf hg) = subst LaneSound (sym lane) s
  outcome_sound s (answer_lost is lane hf hg) =
      subst LaneSound (sym lane) (delivered_sound x behind b (behind_few x behind (same b e) s.few))
  outcome_sound s (both_through is lane hf hg) =
      subst LaneSound (sym lane) (next_sound behind b (behind_few x behind (same b e) s.few))

  -- of an accepted message a round gives nothing, and leaves the list alone
  accepted_stays : same b e ≡ false → Outcome x behind b e M f g f' g' r n → (r ≡ Ok None) × (waiting_in n ≡ behind)
  accepted_stays level (frame_lost is lane hf hg) = (is, ap waiting_in lane ∙ ap (λ t. cond t (x ∷ behind) behind) level)
  accepted_stays level (answer_lost is lane hf hg) =
      (is ∙ ap (λ t. Ok (cond t (Some x) None)) level, ap waiting_in lane ∙ delivered_waits x behind b)
  accepted_stays level (both_through is lane hf hg) =
      (is ∙ ap (λ t. Ok (cond t (Some x) None)) level, ap waiting_in lane ∙ next_waits behind b)

  accepted_falls : same b e ≡ false → Outcome x behind b e M f g f' g' r n → allowance_of n M f' g' < g * (M + 1) + f + 1 + M
  accepted_falls level (frame_lost is lane hf hg) =
      omega (arith, ap (λ k. allowance_of k M f' g') lane ∙ ap (λ t. cond t f' (g' * (M + 1) + f' + 1 + M)) level, mul-le-mul_right (M + 1) hg)
  accepted_falls level (answer_lost is lane hf hg) =
      omega (arith, ap (λ k. allowance_of k M f' g') lane ∙ delivered_allows x behind b M f' g', mul-le-mul_right (M + 1) hg, suc-mul g' (M + 1))
  accepted_falls level (both_through is lane hf hg) =
      omega (arith, ap (λ k. allowance_of k M f' g') lane, next_allows behind b M f' g')

  -- one that is not accepted yet is given, or the frame was lost
  fresh_gives : same b e ≡ true → Outcome x behind b e M f g f' g' r n
      → Gave x behind r n ⊎ ((r ≡ Ok None) × (waiting_in n ≡ x ∷ behind) × (allowance_of n M f' g' < f))
  fresh_gives level (frame_lost is lane hf hg) =
      inr (
        is,
        ap waiting_in lane ∙ ap (λ t. cond t (x ∷ behind) behind) level,
        omega (arith, ap (λ k. allowance_of k M f' g') lane ∙ ap (λ t. cond t f' (g' * (M + 1) + f' + 1 + M)) level),
      )
  fresh_gives level (answer_lost is lane hf hg) =
      inl (record { given = is ∙ ap (λ t. Ok (cond t (Some x) None)) level; rest = ap waiting_in lane ∙ delivered_waits x behind b })
  fresh_gives level (both_through is lane hf hg) =
      inl (record { given = is ∙ ap (λ t. Ok (cond t (Some x) None)) level; rest = ap waiting_in lane ∙ next_waits behind b })

  outcome_by : (level : Bool) → same b e ≡ level → Outcome x behind b e M f g f' g' r n → (y : Message) (ys : List Message) → waiting_in m ≡ y ∷ ys
      → Gave y ys r n ⊎ Held m r n (allowance_of m M f g) (allowance_of n M f' g')
  outcome_by true level o y ys is =
      let here = ap (λ t. cond t (x ∷ behind) behind) level in
      let front : x ≡ y = grind arith in
      let others : behind ≡ ys = grind arith in
      let before = ap (λ t. cond t f (g * (M + 1) + f + 1 + M)) level in
      ⊎_elim (λ h. inl (record { given = h.given ∙ ap (λ z. Ok (Some z)) front; rest = h.rest ∙ others }))
      (λ h. inr (record { nothing = h.0; stays = h.1 ∙ sym here; falls = omega (arith, h.2, before) })) (fresh_gives level o)
  outcome_by false level o y ys is =
      let here = ap (λ t. cond t (x ∷ behind) behind) level in
      let before = ap (λ t. cond t f (g * (M + 1) + f + 1 + M)) level in
      let h = accepted_stays level o in
      inr (record { nothing = h.0; stays = h.1 ∙ sym here; falls = omega (arith, accepted_falls level o, before) })

  pub outcome_some : Outcome x behind b e M f g f' g' r n → (y : Message) (ys : List Message) → waiting_in m ≡ y ∷ ys
      → Gave y ys r n ⊎ Held m r n (allowance_of m M f g) (allowance_of n M f' g')
  outcome_some = outcome_by (same b e) refl

  empty_by : (level : Bool) → same b e ≡ level → Outcome x behind b e M f g f' g' r n → waiting_in m ≡ [] → (r ≡ Ok None) × (waiting_in n ≡ [])
  empty_by true level o is = absurd (let here = ap (λ t. cond t (x ∷ behind) behind) level in grind arith)
  empty_by false level o is =
      let here = ap (λ t. cond t (x ∷ behind) behind) level in let h = accepted_stays level o in (h.0, h.1 ∙ sym here ∙ is)

  pub outcome_empty : Outcome x behind b e M f g f' g' r n → waiting_in m ≡ [] → (r ≡ Ok None) × (waiting_in n ≡ [])
  outcome_empty = empty_by (same b e) refl
