-- An event that is done keeps what every cabinet keeps. In the middle of an event less holds: after it acted, the holder may be
-- queued while the privilege is about to be assigned, and after it was assigned, the holder may not have been asked yet.
use Rattle.std.proofs.Common.{◌≡◌, ℕ, ◌+◌, ◌<◌, ◌≤◌, Bool, true, false, cond, not, ◌&&◌, ◌||◌, List, [], ◌∷◌, ◌++◌, length, is_some, Some, None, sym, refl, ap, ◌∙◌, subst, ⊎_elim, arith}
use Rattle.std.proofs.lemmas.List.{length_push}
use Rattle.std.proofs.lemmas.Bool.{both_ways, cases_Bool, cond-true, cond-false}
use Rattle.std.proofs.lemmas.Bool.Decides.{nat_tests}
use Rattle.cable.specs.Rows.{oldest, rest}
use Rattle.cable.specs.declared.number.CabinetNo.{CabinetNo}
use Rattle.cabinet.proofs.Counting.{times-append, same_self, same_sym, same_is}
use Rattle.cabinet.proofs.Pigeonhole.{no_more_than_neighbours}
use Rattle.cabinet.specs.Kept.{Kept, knows, many, near_by}
use Rattle.cabinet.specs.Models.{Model, some, refused, joined, acted, served, given, assigned, asks, asking, stepped, neighbour}
use Rattle.cabinet.specs.Parties.{own, same, times}
use Rattle.cabinet.specs.declared.event.Event.{Event}
use Rattle.cabinet.specs.declared.event.Event.TheVariants.{Want, Leave, Request, Privilege}
use Rattle.cabinet.specs.declared.party.Party.{Party}
use Rattle.cabinet.specs.declared.party.Party.TheVariants.{Own, Neighbour}

-- the privilege is here and nobody is in
abbrev pub free : Model → Bool
free m = own m.holder && not m.inside

-- what holds after an event acted
record Acted (bs : List Bool) (m : Model) : Type 0 where
  once : (p : Party) → times p m.queue ≤ 1
  known : (p : Party) → 0 < times p m.queue → knows bs p ≡ true
  near : knows bs m.holder ≡ true
  home : m.inside ≡ true → own m.holder ≡ true
  apart : free m ≡ false → times m.holder m.queue ≡ 0
  some_asked : m.asked ≡ true → some m.queue ≡ true
  away_asked : m.asked ≡ true → free m ≡ false → own m.holder ≡ false

-- what holds once the privilege was assigned
record Settled (bs : List Bool) (m : Model) : Type 0 where
  once : (p : Party) → times p m.queue ≤ 1
  known : (p : Party) → 0 < times p m.queue → knows bs p ≡ true
  near : knows bs m.holder ≡ true
  home : m.inside ≡ true → own m.holder ≡ true
  apart : times m.holder m.queue ≡ 0
  idle : own m.holder ≡ true → m.inside ≡ false → length m.queue ≡ 0
  some_asked : m.asked ≡ true → some m.queue ≡ true
  away_asked : m.asked ≡ true → own m.holder ≡ false

module _ (q : List Party) (p : Party) where
  pub times-push : (x : Party) → times x (q ++ p ∷ []) ≡ times x q + cond (same x p) 1 0
  times-push x = omega (arith, times-append x q (p ∷ []))

  once_push : ((x : Party) → times x q ≤ 1) → times p q ≡ 0 → (x : Party) → times x (q ++ p ∷ []) ≤ 1
  once_push once new x =
      ⊎_elim
      (λ (e : same x p ≡ true). omega (arith, times-push x, cond-true {A = ℕ} (same x p) 1 0 e, ap (λ y. times y q) (same_is x p e)))
      (λ (e : same x p ≡ false). omega (arith, times-push x, cond-false {A = ℕ} (same x p) 1 0 e, once x)) (cases_Bool (same x p))

  known_push : (bs : List Bool) → ((x : Party) → 0 < times x q → knows bs x ≡ true) → knows bs p ≡ true
      → (x : Party) → 0 < times x (q ++ p ∷ []) → knows bs x ≡ true
  known_push bs known new x l =
      ⊎_elim (λ (e : same x p ≡ true). ap (knows bs) (same_is x p e) ∙ new)
      (λ (e : same x p ≡ false). known x (omega (arith, times-push x, cond-false {A = ℕ} (same x p) 1 0 e))) (cases_Bool (same x p))

some-push : (q : List Party) (p : Party) → some (q ++ p ∷ []) ≡ true
some-push [] p = refl
some-push (x ∷ q) p = refl

-- what an event that is not refused may build on
pub want_free : (near : CabinetNo → Bool) (m : Model) → refused near m Want ≡ None → (times Own m.queue ≡ 0) × (m.inside ≡ false)
want_free near m n = grind (arith, nat_tests)

pub leave_in : (near : CabinetNo → Bool) (m : Model) → refused near m Leave ≡ None → m.inside ≡ true
leave_in near m n = grind (arith, nat_tests)

request_new : (near : CabinetNo → Bool) (m : Model) (u : CabinetNo) → refused near m (Request u) ≡ None
    → (near u ≡ true) × (times (Neighbour u) m.queue ≡ 0) × (same (Neighbour u) m.holder ≡ false)
request_new near m u n = grind (arith, nat_tests)

privilege_due : (near : CabinetNo → Bool) (m : Model) (u : CabinetNo) → refused near m (Privilege u) ≡ None
    → (same (Neighbour u) m.holder ≡ true) × (m.asked ≡ true)
privilege_due near m u n = grind (arith, nat_tests)

same_own : (p : Party) → same p Own ≡ own p
same_own Own = refl
same_own (Neighbour n) = refl

not_own : (u : CabinetNo) (p : Party) → same (Neighbour u) p ≡ true → own p ≡ false
not_own u Own e = sym e
not_own u (Neighbour n) e = refl

module _ (bs : List Bool) (m : Model) (h : Kept bs m) where
  pub asked_away : m.asked ≡ true → (own m.holder ≡ false) × (some m.queue ≡ true)
  asked_away a = let e = h.asks in grind arith

  joins_keeps : (p : Party) → knows bs p ≡ true → times p m.queue ≡ 0 → (free m ≡ false → same m.holder p ≡ false)
      → Acted bs (joined p m)
  joins_keeps p near new other =
      record {
        once = once_push m.queue p h.once new;
        known = known_push m.queue p bs h.known near;
        near = h.near;
        home = h.home;
        apart = λ f. omega (arith, times-push m.queue p m.holder, cond-false {A = ℕ} (same m.holder p) 1 0 (other f), h.apart);
        some_asked = λ _. some-push m.queue p;
        away_asked = λ a _. (asked_away a).0;
      }

  act_keeps : (e : Event) → refused (near_by bs) m e ≡ None → Acted bs (acted m e)
  act_keeps Want n =
      let f = want_free (near_by bs) m n in
      joins_keeps Own refl f.0 (λ e. same_own m.holder ∙ (let z = f.1 in let g : own m.holder ≡ false = grind arith in g))
  act_keeps (Request u) n =
      let f = request_new (near_by bs) m u n in
      joins_keeps (Neighbour u) f.0 f.1 (λ _. same_sym m.holder (Neighbour u) ∙ f.2)
  act_keeps Leave n =
      record {
        once = h.once;
        known = h.known;
        near = h.near;
        home = λ e. absurd (both_ways _ refl e);
        apart = λ _. h.apart;
        some_asked = λ a. (asked_away a).1;
        away_asked = λ a _. (asked_away a).0;
      }
  act_keeps (Privilege u) n =
      let f = privilege_due (near_by bs) m u n in
      let out : m.inside ≡ false
      = ⊎_elim (λ (e : m.inside ≡ true). absurd (both_ways _ (not_own u m.holder f.0) (h.home e)))
      (λ (e : m.inside ≡ false). e) (cases_Bool m.inside)
      in
      record {
        once = h.once;
        known = h.known;
        near = refl;
        home = λ _. refl;
        apart = λ e. absurd (grind arith);
        some_asked = λ a. (asked_away a).1;
        away_asked = λ a e. absurd (grind arith);
      }

module _ (m : Model) where
  stays : free m ≡ false → assigned m ≡ m
  stays f = ap (λ b. given (cond b (oldest m.queue) None) m) f

  idles : free m ≡ true → m.queue ≡ [] → assigned m ≡ m
  idles f e = ap (λ b. given (cond b (oldest m.queue) None) m) f ∙ ap (λ q. given (oldest q) m) e

  serves : (p : Party) (q : List Party) → free m ≡ true → m.queue ≡ p ∷ q
      → assigned m ≡ record { holder = p; inside = own p; asked = false; queue = q }
  serves p q f e =
      ap (λ b. given (cond b (oldest m.queue) None) m) f ∙ ap (λ l. given (oldest l) m) e
      ∙ ap (λ l. record { holder = p; inside = own p; asked = false; queue = rest l }) e

module _ (bs : List Bool) (m : Model) (h : Acted bs m) where
  rests_keeps : free m ≡ false → Settled bs m
  rests_keeps f =
      record {
        once = h.once;
        known = h.known;
        near = h.near;
        home = h.home;
        apart = h.apart f;
        idle = λ o i. absurd (grind arith);
        some_asked = h.some_asked;
        away_asked = λ a. h.away_asked a f;
      }

  idle_keeps : free m ≡ true → m.queue ≡ [] → Settled bs m
  idle_keeps f e =
      let none : m.asked ≡ true → ⊥ = λ a. both_ways _ (ap some e) (h.some_asked a) in
      record {
        once = h.once;
        known = h.known;
        near = h.near;
        home = h.home;
        apart = ap (times m.holder) e;
        idle = λ _ _. ap length e;
        some_asked = h.some_asked;
        away_asked = λ a. absurd (none a);
      }

  serve_keeps : (p : Party) (q : List Party) → m.queue ≡ p ∷ q
      → Settled bs (record { holder = p; inside = own p; asked = false; queue = q })
  serve_keeps p q e =
      let all : (x : Party) → times x m.queue ≡ cond (same x p) 1 0 + times x q = λ x. ap (times x) e in
      record {
        once = λ x. omega (arith, h.once x, all x);
        known = λ x l. h.known x (omega (arith, all x));
        near = h.known p (omega (arith, all p, cond-true {A = ℕ} (same p p) 1 0 (same_self p)));
        home = λ i. i;
        apart = omega (arith, h.once p, all p, cond-true {A = ℕ} (same p p) 1 0 (same_self p));
        idle = λ o i. absurd (both_ways _ i o);
        some_asked = λ a. absurd (both_ways _ refl a);
        away_asked = λ a. absurd (both_ways _ refl a);
      }

  free_keeps : (q : List Party) → m.queue ≡ q → free m ≡ true → Settled bs (assigned m)
  free_keeps [] e f = subst (Settled bs) (sym (idles m f e)) (idle_keeps f e)
  free_keeps (p ∷ q) e f = subst (Settled bs) (sym (serves m p q f e)) (serve_keeps p q e)

  assign_keeps : Settled bs (assigned m)
  assign_keeps =
      ⊎_elim (λ (f : free m ≡ true). free_keeps m.queue refl f)
      (λ (f : free m ≡ false). subst (Settled bs) (sym (stays m f)) (rests_keeps f)) (cases_Bool (free m))

ask_is : (holder : Party) (asked : Bool) (q : List Party) → (asked ≡ true → some q ≡ true) → (asked ≡ true → own holder ≡ false)
    → (asked || is_some (cond (some q && not asked) (neighbour holder) None)) ≡ (not (own holder) && some q)
ask_is Own true q s a = absurd (both_ways true (a refl) refl)
ask_is Own false [] s a = refl
ask_is Own false (x ∷ q) s a = refl
ask_is (Neighbour v) true [] s a = absurd (both_ways false refl (s refl))
ask_is (Neighbour v) true (x ∷ q) s a = refl
ask_is (Neighbour v) false [] s a = refl
ask_is (Neighbour v) false (x ∷ q) s a = refl

ask_keeps : (bs : List Bool) (m : Model) → many bs ≤ 15 → Settled bs m → Kept bs (asking m)
ask_keeps bs m few h =
    record {
      few = few;
      once = h.once;
      apart = h.apart;
      home = h.home;
      idle = h.idle;
      asks = ask_is m.holder m.asked m.queue h.some_asked h.away_asked;
      known = h.known;
      near = h.near;
    }

-- what every cabinet keeps, it keeps over an event that is done
pub event_keeps : (bs : List Bool) (m : Model) (e : Event) → Kept bs m → refused (near_by bs) m e ≡ None → Kept bs (stepped m e)
event_keeps bs m e h n = ask_keeps bs (assigned (acted m e)) h.few (assign_keeps bs (acted m e) (act_keeps bs m h e n))

-- and its queue has a place for whoever joins
module _ (bs : List Bool) (m : Model) (h : Kept bs m) where
  pub queue_fits : length m.queue ≤ 15
  queue_fits = omega (arith, h.few, no_more_than_neighbours bs m.queue h.once h.known m.holder h.apart h.near)

  joined_fits : (p : Party) → Acted bs (joined p m) → length (m.queue ++ p ∷ []) ≤ 15
  joined_fits p a =
      ⊎_elim
      (λ (f : free m ≡ true).
      let o : own m.holder ≡ true = grind arith in
      let i : m.inside ≡ false = grind arith in
      omega (arith, length_push m.queue p, h.idle o i))
      (λ (f : free m ≡ false).
      omega (arith, h.few, no_more_than_neighbours bs (m.queue ++ p ∷ []) a.once a.known m.holder (a.apart f) h.near))
      (cases_Bool (free m))

  pub event_fits : (e : Event) → refused (near_by bs) m e ≡ None → length (acted m e).queue ≤ 15
  event_fits Want n = joined_fits Own (act_keeps bs m h Want n)
  event_fits Leave n = queue_fits
  event_fits (Request u) n = joined_fits (Neighbour u) (act_keeps bs m h (Request u) n)
  event_fits (Privilege u) n = queue_fits

-- what an event that is not refused may be told of the middle of it
module _ (bs : List Bool) (m : Model) (h : Kept bs m) (e : Event) (n : refused (near_by bs) m e ≡ None) where
  pub acted_once : (p : Party) → times p (acted m e).queue ≤ 1
  acted_once = (act_keeps bs m h e n).once

  in_front : (q : List Party) (p : Party) → oldest q ≡ Some p → 0 < times p q
  in_front [] p o = absurd (grind arith)
  in_front (x ∷ q) p o =
      let is : p ≡ x = cc in omega (arith, cond-true {A = ℕ} (same p x) 1 0 (ap (same p) (sym is) ∙ same_self p))

  pub served_known : (p : Party) → served (acted m e) ≡ Some p → knows bs p ≡ true
  served_known p s =
      ⊎_elim (λ (f : free (acted m e) ≡ true).
      (act_keeps bs m h e n).known p (in_front (acted m e).queue p (sym (cond-true (free (acted m e)) (oldest (acted m e).queue) None f) ∙ s)))
      (λ (f : free (acted m e) ≡ false). let z = sym (cond-false (free (acted m e)) (oldest (acted m e).queue) None f) ∙ s in absurd (grind arith))
      (cases_Bool (free (acted m e)))

  neighbour_is : (p : Party) (v : CabinetNo) → neighbour p ≡ Some v → p ≡ Neighbour v
  neighbour_is Own v s = absurd (grind arith)
  neighbour_is (Neighbour u) v s = let is : u ≡ v = cc in ap Neighbour is

  asked_holder : (t : Bool) (p : Party) (v : CabinetNo) → cond t (neighbour p) None ≡ Some v → p ≡ Neighbour v
  asked_holder true p v s = neighbour_is p v s
  asked_holder false p v s = absurd (grind arith)

  pub asked_known : (v : CabinetNo) → asks (assigned (acted m e)) ≡ Some v → knows bs (Neighbour v) ≡ true
  asked_known v s =
      let a = assign_keeps bs (acted m e) (act_keeps bs m h e n) in
      ap (knows bs) (sym (asked_holder (some (assigned (acted m e)).queue && not (assigned (acted m e)).asked) (assigned (acted m e)).holder v s)) ∙ a.near
