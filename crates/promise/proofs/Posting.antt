-- What is on the lanes after a cabinet has sent its messages, and that none of them is refused while the lanes have room.
use Rattle.std.proofs.Common.{◌≡◌, ℕ, ◌+◌, ◌<◌, ◌≤◌, Bool, true, false, cond, eqb, List, [], ◌∷◌, ◌++◌, length, Some, None, Ok, Err, Option, Result, sym, refl, ap, ◌∙◌, subst, ⊎_elim, arith}
use Rattle.std.proofs.lemmas.List.{append-nil, append_assoc, length_push}
use Rattle.std.proofs.lemmas.Bool.{cases_eq, cases_lt, eq-eqb, ne_eqb}
use Rattle.std.specs.List.{AllByRecursion}
use Rattle.cable.specs.Numbers.{lanes}
use Rattle.cable.specs.declared.message.Message.{Message}
use Rattle.cable.specs.declared.message.Message.TheVariants.{Request, Privilege}
use Rattle.cable.specs.declared.number.CabinetNo.{CabinetNo}
use Rattle.cable.specs.declared.refusal.Refusal.{Refusal}
use Rattle.post.specs.Posts.{PostModel, PostSound, Puts, Joins, OtherLanes}
use Rattle.promise.specs.Banks.{any_post}
use Rattle.promise.specs.Events.{Posted, all, then, refused, no_lane}
use Rattle.promise.specs.Promise.{privileges, total}
use Rattle.promise.proofs.Totals.{total_change}
use Rattle.tree.specs.Trees.{lane_from}

-- a put that was done
pub record DonePut (p : PostModel) (l : ℕ) (m : Message) (q : PostModel) : Type 0 where
  pub within : l < lanes
  pub joins : Joins l m p q
  pub others : OtherLanes l p q
  pub sound : PostSound q

module _ (p : PostModel) (l : ℕ) (m : Message) (q : PostModel) (ok : PostSound p) where
  allow_here : Joins l m p q → (w : List Message) → p.waiting l ≡ w → q.allowance l ≤ p.patience
  allow_here j [] e = j.first e
  allow_here j (x ∷ w) e = omega (arith, ok.allowances l, j.behind (λ n. let z = sym n ∙ e in absurd (grind arith)))

  still_sound : length (p.waiting l) < 4 → Joins l m p q → OtherLanes l p q → q.patience ≡ p.patience → PostSound q
  still_sound room j o same =
      record {
        bounded = omega (arith, ok.bounded);
        allowances = λ k.
            ⊎_elim (λ (e : k ≡ l). let h = ap q.allowance e in omega (arith, allow_here j (p.waiting l) refl))
            (λ (e : k ≡ l → ⊥). omega (arith, ok.allowances k, o.allowance k e)) (cases_eq k l);
        few = λ k.
            ⊎_elim
            (λ (e : k ≡ l). let h = ap (λ i. length (q.waiting i)) e in omega (arith, ap length j.end, length_push (p.waiting l) m))
            (λ (e : k ≡ l → ⊥). omega (arith, ok.few k, ap length (o.waiting k e))) (cases_eq k l);
      }

  pub put_done : Puts p l m (Ok tt) q → DonePut p l m q
  put_done s =
      let within : l < lanes
      = ⊎_elim (λ (h : l < lanes). h) (λ (h : lanes ≤ l). let e = (s.no_lane h).0 in absurd (grind arith)) (cases_lt l lanes)
      in
      let room : length (p.waiting l) < 4
      = ⊎_elim (λ (h : length (p.waiting l) ≡ 4). let e = (s.full within h).0 in absurd (grind arith))
      (λ (h : length (p.waiting l) ≡ 4 → ⊥). omega (arith, h, ok.few l)) (cases_eq (length (p.waiting l)) 4)
      in
      let d = s.done within room in
      record { within = within; joins = d.1; others = d.2; sound = still_sound room d.1 d.2 s.patience }

  -- a put on a lane with room is not refused
  pub put_accepted : (why : Refusal) → Puts p l m (Err why) q → l < lanes → length (p.waiting l) < 4 → ⊥
  put_accepted why s within room = let e = (s.done within room).0 in absurd (grind arith)

abbrev pub is_lane : Option ℕ → ℕ → Bool
is_lane None l = false
is_lane (Some k) l = eqb k l

-- those of the messages that go on lane l
abbrev pub on_lane : List CabinetNo → ℕ → ℕ → List (CabinetNo × Message) → List Message
on_lane ps x l [] = []
on_lane ps x l (t ∷ more) = cond (is_lane (lane_from ps x t.0.0) l) (t.1 ∷ on_lane ps x l more) (on_lane ps x l more)

-- how many of them are PRIVILEGE
abbrev pub privileges_in : List (CabinetNo × Message) → ℕ
privileges_in [] = 0
privileges_in (t ∷ more) = privileges (t.1 ∷ []) + privileges_in more

privileges-push : (ms : List Message) (m : Message) → privileges (ms ++ m ∷ []) ≡ privileges ms + privileges (m ∷ [])
privileges-push [] m = omega arith
privileges-push (Request ∷ ms) m = privileges-push ms m
privileges-push (Privilege ∷ ms) m = omega (arith, privileges-push ms m)

never_empty : (w : List Message) (m : Message) → w ++ m ∷ [] ≡ [] → ⊥
never_empty [] m e = absurd (grind arith)
never_empty (x ∷ w) m e = absurd (grind arith)

add_up : (x y z a b : ℕ) → x ≡ y + b → y ≡ z + a → x ≡ z + (a + b)
add_up x y z a b e f = omega arith

joined_front : (t : Bool) (w : List Message) (m : Message) (ms : List Message) → (w ++ cond t (m ∷ []) []) ++ ms ≡ w ++ cond t (m ∷ ms) ms
joined_front true w m ms = append_assoc w (m ∷ []) ms
joined_front false w m ms = ap (λ v. v ++ ms) (append-nil w)

module _ (ps : List CabinetNo) (x : ℕ) where
  -- what is on each lane afterwards
  pub record Arranged (p : PostModel) (msgs : List (CabinetNo × Message)) (q : PostModel) : Type 0 where
    pub sound : PostSound q
    pub patience : q.patience ≡ p.patience
    pub waiting : (l : ℕ) → q.waiting l ≡ p.waiting l ++ on_lane ps x l msgs
    pub under : total lanes (λ l. privileges (q.waiting l)) ≡ total lanes (λ l. privileges (p.waiting l)) + privileges_in msgs

  one_put : (p q : PostModel) (l k : ℕ) (m : Message) → DonePut p l m q → q.waiting k ≡ p.waiting k ++ cond (eqb l k) (m ∷ []) []
  one_put p q l k m d =
      ⊎_elim
      (λ (e : l ≡ k). subst (λ i. q.waiting i ≡ p.waiting i ++ cond (eqb l i) (m ∷ []) []) e
      (d.joins.end ∙ ap (λ t. p.waiting l ++ cond t (m ∷ []) []) (sym (eq-eqb l l refl))))
      (λ (e : l ≡ k → ⊥). d.others.waiting k (λ i. e (sym i)) ∙ sym (append-nil (p.waiting k))
      ∙ ap (λ t. p.waiting k ++ cond t (m ∷ []) []) (sym (ne_eqb l k e)))
      (cases_eq l k)

  one_under : (p q : PostModel) (l : ℕ) (m : Message) → DonePut p l m q
      → total lanes (λ k. privileges (q.waiting k)) ≡ total lanes (λ k. privileges (p.waiting k)) + privileges (m ∷ [])
  one_under p q l m d =
      omega (
        arith,
        total_change lanes l (λ k. privileges (p.waiting k)) (λ k. privileges (q.waiting k)) d.within
            (λ k s e. ap privileges (d.others.waiting k e)),
        ap privileges d.joins.end,
        privileges-push (p.waiting l) m,
      )

  pub posted_arranged : {p q : PostModel} {msgs : List (CabinetNo × Message)} {r : Result (Unit {0}) Refusal} → PostSound p
      → Posted any_post ps x p msgs r q → r ≡ Ok tt → Arranged p msgs q
  posted_arranged {p} {q} ok all e =
      record { sound = ok; patience = refl; waiting = λ l. sym (append-nil (p.waiting l)); under = omega arith }
  posted_arranged {p} {q} ok (then {q = p₁} {to = to} {m = m} {more = ms} {l = l} at put rest) e =
      let d = put_done p l m p₁ ok put in
      let a = posted_arranged d.sound rest e in
      record {
        sound = a.sound;
        patience = a.patience ∙ put.patience;
        waiting = λ k.
            a.waiting k ∙ ap (λ w. w ++ on_lane ps x k ms) (one_put p p₁ l k m d) ∙ joined_front (eqb l k) (p.waiting k) m (on_lane ps x k ms)
            ∙ ap (λ o. p.waiting k ++ cond (is_lane o k) (m ∷ on_lane ps x k ms) (on_lane ps x k ms)) (sym at);
        under = add_up _ _ _ (privileges (m ∷ [])) _ a.under (one_under p p₁ l m d);
      }
  posted_arranged ok (refused at put) e = absurd (grind arith)
  posted_arranged ok (no_lane at) e = absurd (grind arith)

  -- each message has a lane, and the lanes from x have room for all of them
  pub record Room (p : PostModel) (msgs : List (CabinetNo × Message)) : Type 0 where
    pub lanes_there : AllByRecursion (λ t. (l : ℕ) × (lane_from ps x t.0.0 ≡ Some l)) msgs
    pub numbers : (y l : ℕ) → lane_from ps x y ≡ Some l → l < lanes
    pub space : (y l : ℕ) → lane_from ps x y ≡ Some l → length (p.waiting l) + length msgs ≤ 4

  room_after : (p q : PostModel) (l : ℕ) (t : CabinetNo × Message) (msgs : List (CabinetNo × Message)) → DonePut p l t.1 q → Room p (t ∷ msgs) → Room q msgs
  room_after p q l t msgs d h =
      record {
        lanes_there = h.lanes_there.1;
        numbers = h.numbers;
        space = λ y k at.
            ⊎_elim
            (λ (e : k ≡ l). let i = ap (λ j. length (q.waiting j)) e in
            omega (arith, h.space y k at, ap (λ j. length (p.waiting j)) e, ap length d.joins.end, length_push (p.waiting l) t.1))
            (λ (e : k ≡ l → ⊥). omega (arith, h.space y k at, ap length (d.others.waiting k e))) (cases_eq k l);
      }

  pub posted_ok : {p q : PostModel} {msgs : List (CabinetNo × Message)} {r : Result (Unit {0}) Refusal} → PostSound p → Room p msgs
      → Posted any_post ps x p msgs r q → r ≡ Ok tt
  posted_ok ok h all = refl
  posted_ok {p} ok h (then {q = p₁} {to = to} {m = m} {more = ms} {l = l} at put rest) =
      let d = put_done p l m p₁ ok put in posted_ok d.sound (room_after p p₁ l (to, m) ms d h) rest
  posted_ok {p} {q} ok h (refused {to = to} {m = m} {why = why} {l = l} at put) =
      absurd (put_accepted p l m q ok why put (h.numbers to.0 l at) (omega (arith, h.space to.0 l at)))
  posted_ok ok h (no_lane {to = to} {more = ms} at) = let e = sym at ∙ h.lanes_there.0.1 in absurd (grind arith)

  -- an allowance with something on its lane does not rise
  pub posted_calm : {p q : PostModel} {msgs : List (CabinetNo × Message)} {r : Result (Unit {0}) Refusal} → PostSound p
      → Posted any_post ps x p msgs r q → r ≡ Ok tt → (l : ℕ) → (p.waiting l ≡ [] → ⊥) → q.allowance l ≤ p.allowance l
  posted_calm ok all e l some = omega arith
  posted_calm {p} {q} ok (then {q = p₁} {to = to} {m = m} {more = ms} {l = k} at put rest) e l some =
      let d = put_done p k m p₁ ok put in
      ⊎_elim
      (λ (i : l ≡ k).
      let here : p₁.allowance k ≤ p.allowance k = d.joins.behind (λ z. some (ap p.waiting i ∙ z)) in
      let on : p₁.waiting l ≡ [] → ⊥ = λ z. never_empty (p.waiting k) m (sym d.joins.end ∙ ap p₁.waiting (sym i) ∙ z) in
      omega (arith, posted_calm d.sound rest e l on, ap p₁.allowance i, ap p.allowance i, here))
      (λ (i : l ≡ k → ⊥).
      omega (arith, posted_calm d.sound rest e l (λ z. some (sym (d.others.waiting l i) ∙ z)), d.others.allowance l i)) (cases_eq l k)
  posted_calm ok (refused at put) e l some = absurd (grind arith)
  posted_calm ok (no_lane at) e l some = absurd (grind arith)

  -- what is sent in two parts goes by way of the post between them
  pub posted_split : {p q : PostModel} {msgs : List (CabinetNo × Message)} {r : Result (Unit {0}) Refusal} → Posted any_post ps x p msgs r q
      → (first rest : List (CabinetNo × Message)) → msgs ≡ first ++ rest → r ≡ Ok tt
      → (between : PostModel) × (Posted any_post ps x p first (Ok tt) between × Posted any_post ps x between rest (Ok tt) q)
  posted_split {p} {q} {msgs} {r} s [] rest e f =
      (p, (all, subst (λ y. Posted any_post ps x p y (Ok tt) q) e (subst (λ z. Posted any_post ps x p msgs z q) f s)))
  posted_split all (t ∷ first) rest e f = absurd (grind arith)
  posted_split {p} {q} (then {q = p₁} {to = to} {m = m} {more = ms} at put more) (t ∷ first) rest e f =
      let head : (to, m) ≡ t = cc in
      let tail : ms ≡ first ++ rest = cc in
      let d = posted_split {p = p₁} {q = q} more first rest tail f in
      (d.0, (subst (λ y. Posted any_post ps x p (y ∷ first) (Ok tt) d.0) head (then at put d.1.0), d.1.1))
  posted_split (refused at put) (t ∷ first) rest e f = absurd (grind arith)
  posted_split (no_lane at) (t ∷ first) rest e f = absurd (grind arith)
