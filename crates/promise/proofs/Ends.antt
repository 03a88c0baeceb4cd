-- One end of a cable: what each step of an event at this end changes of the view, for the neighbour at the other end.
use Rattle.std.proofs.Common.{◌≡◌, ℕ, ◌+◌, ◌≤◌, Bool, true, false, cond, not, ◌&&◌, ◌||◌, eqb, List, [], ◌∷◌, ◌++◌, is_some, Some, None, Option, sym, refl, ap, ◌∙◌, subst, arith}
use Rattle.std.proofs.lemmas.List.{append-nil}
use Rattle.std.proofs.lemmas.Bool.{cond-true, cond-false, or_right}
use Rattle.std.proofs.lemmas.Bool.Decides.{nat_tests}
use Rattle.cable.specs.Rows.{oldest, rest}
use Rattle.cable.specs.declared.message.Message.{Message}
use Rattle.cable.specs.declared.message.Message.TheVariants.{Request as REQUEST, Privilege as PRIVILEGE}
use Rattle.cable.specs.declared.number.CabinetNo.{CabinetNo}
use Rattle.cabinet.proofs.Keeping.{times-push}
use Rattle.cabinet.proofs.LawsHold.{oldest-rest, some_served}
use Rattle.cabinet.specs.Models.{Model, some, acted, served, given, assigned, asks, asking, stepped, neighbour}
use Rattle.cabinet.specs.Parties.{own, same, times}
use Rattle.cabinet.specs.declared.event.Event.{Event}
use Rattle.cabinet.specs.declared.event.Event.TheVariants.{Want, Leave, Request, Privilege}
use Rattle.cabinet.specs.declared.party.Party.{Party}
use Rattle.cabinet.specs.declared.party.Party.TheVariants.{Own, Neighbour}
use Rattle.promise.proofs.Edges.{Aim, away, quiet, calling, EdgeView, EdgeOk, request_due, request_arrives, privilege_arrives, privilege_goes, request_goes}

-- what the record m thinks of the party p
abbrev pub aim : Party → Model → Aim
aim p m = cond (same p m.holder) (cond m.asked calling quiet) away

-- the view from an end with record m, whose other end is the neighbour p; of the other end only its aim and its queue are seen
abbrev pub seen : Party → Model → Aim → ℕ → List Message → List Message → EdgeView
seen p m far there out back = record { near = aim p m; far = far; here = times p m.queue; there = there; out = out; back = back }

-- the message of an arrival from u, in front of what is left on the lane back
abbrev pub before : CabinetNo → Event → List Message → List Message
before u Want back = back
before u Leave back = back
before u (Request v) back = cond (eqb v.0 u.0) (REQUEST ∷ back) back
before u (Privilege v) back = cond (eqb v.0 u.0) (PRIVILEGE ∷ back) back

-- an event acts; of a PRIVILEGE that is not refused, the sender is the holder
abbrev pub Due : Model → Event → Type 0
Due m Want = Unit {0}
Due m Leave = Unit {0}
Due m (Request v) = Unit {0}
Due m (Privilege v) = same (Neighbour v) m.holder ≡ true

pub other_holder : (u v : CabinetNo) (h : Party) → eqb v.0 u.0 ≡ false → same (Neighbour v) h ≡ true → same (Neighbour u) h ≡ false
other_holder u v Own e s = refl
other_holder u v (Neighbour n) e s = grind (arith, nat_tests)

module _ (u : CabinetNo) (m : Model) (far : Aim) (there : ℕ) (out back : List Message) where
  with_here : (h k : ℕ) (near : Aim) (b : List Message) → h ≡ k
      → EdgeOk (record { near = near; far = far; here = h; there = there; out = out; back = b })
      → EdgeOk (record { near = near; far = far; here = k; there = there; out = out; back = b })
  with_here h k near b e ok = subst (λ i. EdgeOk (record { near = near; far = far; here = i; there = there; out = out; back = b })) e ok

  request_edge : (v : CabinetNo) (t : Bool) → eqb v.0 u.0 ≡ t
      → EdgeOk (seen (Neighbour u) m far there out (cond t (REQUEST ∷ back) back))
      → EdgeOk (seen (Neighbour u) (acted m (Request v)) far there out back)
  request_edge v true e ok =
      let d = request_due (seen (Neighbour u) m far there out (REQUEST ∷ back)) back ok refl in
      let t : same (Neighbour u) (Neighbour v) ≡ true = grind (arith, nat_tests) in
      with_here 1 _ (aim (Neighbour u) m) back
      (omega (arith, times-push m.queue (Neighbour v) (Neighbour u), d.nobody, cond-true {A = ℕ} (same (Neighbour u) (Neighbour v)) 1 0 t))
      (request_arrives (seen (Neighbour u) m far there out (REQUEST ∷ back)) back ok refl)
  request_edge v false e ok =
      let t : same (Neighbour u) (Neighbour v) ≡ false = grind (arith, nat_tests) in
      with_here (times (Neighbour u) m.queue) _ (aim (Neighbour u) m) back
      (omega (arith, times-push m.queue (Neighbour v) (Neighbour u), cond-false {A = ℕ} (same (Neighbour u) (Neighbour v)) 1 0 t)) ok

  privilege_edge : (v : CabinetNo) (t : Bool) → eqb v.0 u.0 ≡ t → same (Neighbour v) m.holder ≡ true
      → EdgeOk (seen (Neighbour u) m far there out (cond t (PRIVILEGE ∷ back) back))
      → EdgeOk (seen (Neighbour u) (acted m (Privilege v)) far there out back)
  privilege_edge v true e h ok = privilege_arrives (seen (Neighbour u) m far there out (PRIVILEGE ∷ back)) back ok refl
  privilege_edge v false e h ok =
      subst (λ a. EdgeOk (record { near = a; far = far; here = times (Neighbour u) m.queue; there = there; out = out; back = back }))
      (cond-false (same (Neighbour u) m.holder) (cond m.asked calling quiet) away (other_holder u v m.holder e h)) ok

  pub act_edge : (e : Event) → Due m e → EdgeOk (seen (Neighbour u) m far there out (before u e back))
      → EdgeOk (seen (Neighbour u) (acted m e) far there out back)
  act_edge Want d ok =
      with_here (times (Neighbour u) m.queue) _ (aim (Neighbour u) m) back (omega (arith, times-push m.queue Own (Neighbour u))) ok
  act_edge Leave d ok = ok
  act_edge (Request v) d ok = request_edge v (eqb v.0 u.0) refl ok
  act_edge (Privilege v) d ok = privilege_edge v (eqb v.0 u.0) refl d ok

-- a view with the same fields
pub ok_is : (v w : EdgeView) → v.near ≡ w.near → v.far ≡ w.far → v.here ≡ w.here → v.there ≡ w.there → v.out ≡ w.out → v.back ≡ w.back
    → EdgeOk v → EdgeOk w
ok_is v w a b c d e f ok =
    let is
    : ◌≡◌ {A = EdgeView} (record { near = v.near; far = v.far; here = v.here; there = v.there; out = v.out; back = v.back })
    (record { near = w.near; far = w.far; here = w.here; there = w.there; out = w.out; back = w.back })
    = cc
    in
    subst EdgeOk is ok

-- what is put on the lane to u: PRIVILEGE, if u is served; REQUEST, if u is asked
abbrev pub passed : CabinetNo → Option Party → List Message
passed u None = []
passed u (Some Own) = []
passed u (Some (Neighbour v)) = cond (eqb v.0 u.0) (PRIVILEGE ∷ []) []

abbrev pub called : CabinetNo → Option CabinetNo → List Message
called u None = []
called u (Some v) = cond (eqb v.0 u.0) (REQUEST ∷ []) []

pub own_elsewhere : (u : CabinetNo) (h : Party) → own h ≡ true → same (Neighbour u) h ≡ false
own_elsewhere u Own o = refl
own_elsewhere u (Neighbour n) o = absurd (grind arith)

module _ (u : CabinetNo) (m : Model) (far : Aim) (there : ℕ) (out back : List Message)
    (once : times (Neighbour u) m.queue ≤ 1) (ok : EdgeOk (seen (Neighbour u) m far there out back)) where
  -- the privilege is here, and the asker p is served
  module _ (p : Party) (f : (own m.holder && not m.inside) ≡ true) (o : oldest m.queue ≡ Some p) where
    all : times (Neighbour u) m.queue ≡ cond (same (Neighbour u) p) 1 0 + times (Neighbour u) (rest m.queue)
    all = ap (times (Neighbour u)) (oldest-rest m.queue p o)

    home : own m.holder ≡ true
    home = grind arith

    at_home : aim (Neighbour u) m ≡ away
    at_home = cond-false (same (Neighbour u) m.holder) (cond m.asked calling quiet) away (own_elsewhere u m.holder home)

  serve_neighbour : (v : CabinetNo) → (own m.holder && not m.inside) ≡ true → oldest m.queue ≡ Some (Neighbour v)
      → (t : Bool) → eqb v.0 u.0 ≡ t
      → EdgeOk (seen (Neighbour u) (given (Some (Neighbour v)) m) far there (out ++ cond t (PRIVILEGE ∷ []) []) back)
  serve_neighbour v f o true e =
      let here : same (Neighbour u) (Neighbour v) ≡ true = grind (arith, nat_tests) in
      let more = all (Neighbour v) f o in
      let one = cond-true {A = ℕ} (same (Neighbour u) (Neighbour v)) 1 0 here in
      let g = privilege_goes (seen (Neighbour u) m far there out back) ok (at_home (Neighbour v) f o) (omega (arith, once)) in
      ok_is _ _ (sym (cond-true _ _ _ here)) refl (omega (arith, once)) refl (ap (λ l. l ++ PRIVILEGE ∷ []) (sym g.0)) refl g.1
  serve_neighbour v f o false e =
      let there_not : same (Neighbour u) (Neighbour v) ≡ false = grind (arith, nat_tests) in
      ok_is _ _ (at_home (Neighbour v) f o ∙ sym (cond-false _ _ _ there_not)) refl
      (omega (arith, all (Neighbour v) f o, cond-false {A = ℕ} (same (Neighbour u) (Neighbour v)) 1 0 there_not)) refl (sym (append-nil out)) refl ok

  serve_edge : (o : Option Party) → ((p : Party) → o ≡ Some p → ((own m.holder && not m.inside) ≡ true) × (oldest m.queue ≡ Some p))
      → EdgeOk (seen (Neighbour u) (given o m) far there (out ++ passed u o) back)
  serve_edge None h = ok_is _ _ refl refl refl refl (sym (append-nil out)) refl ok
  serve_edge (Some Own) h =
      let s = h Own refl in
      ok_is _ _ (at_home Own s.0 s.1) refl (omega (arith, all Own s.0 s.1)) refl (sym (append-nil out)) refl ok
  serve_edge (Some (Neighbour v)) h = let s = h (Neighbour v) refl in serve_neighbour v s.0 s.1 (eqb v.0 u.0) refl

  pub assign_edge : EdgeOk (seen (Neighbour u) (assigned m) far there (out ++ passed u (served m)) back)
  assign_edge = serve_edge (served m) (λ p e. some_served (own m.holder && not m.inside) (oldest m.queue) p e)

pub holder_of : (h : Party) (v : CabinetNo) → neighbour h ≡ Some v → h ≡ Neighbour v
holder_of Own v e = absurd (grind arith)
holder_of (Neighbour n) v e = let is : n ≡ v = cc in ap Neighbour is

pub some_asked : (t : Bool) (o : Option CabinetNo) (v : CabinetNo) → cond t o None ≡ Some v → (t ≡ true) × (o ≡ Some v)
some_asked true o v e = (refl, e)
some_asked false o v e = absurd (grind arith)

pub or_false : (t : Bool) → (t || false) ≡ t
or_false true = refl
or_false false = refl

module _ (u : CabinetNo) (m : Model) (far : Aim) (there : ℕ) (out back : List Message)
    (ok : EdgeOk (seen (Neighbour u) m far there out back)) where
  -- the record once the holder was asked, or was not
  abbrev marked : Option CabinetNo → Model
  marked o = record { holder = m.holder; inside = m.inside; asked = m.asked || is_some o; queue = m.queue }

  call_neighbour : (v : CabinetNo) → m.holder ≡ Neighbour v → m.asked ≡ false → (t : Bool) → eqb v.0 u.0 ≡ t
      → EdgeOk (seen (Neighbour u) (marked (Some v)) far there (out ++ cond t (REQUEST ∷ []) []) back)
  call_neighbour v h a true e =
      let here : same (Neighbour u) m.holder ≡ true
      = ap (same (Neighbour u)) h ∙ (let t : same (Neighbour u) (Neighbour v) ≡ true = grind (arith, nat_tests) in t)
      in
      let silent : aim (Neighbour u) m ≡ quiet = cond-true _ _ _ here ∙ cond-false _ _ _ a in
      let after : aim (Neighbour u) (marked (Some v)) ≡ calling = cond-true _ _ _ here ∙ cond-true _ _ _ (or_right m.asked true refl) in
      ok_is _ _ (sym after) refl refl refl refl refl (request_goes (seen (Neighbour u) m far there out back) ok silent).1
  call_neighbour v h a false e =
      let not_here : same (Neighbour u) m.holder ≡ false
      = ap (same (Neighbour u)) h ∙ (let t : same (Neighbour u) (Neighbour v) ≡ false = grind (arith, nat_tests) in t)
      in
      ok_is _ _ (cond-false _ _ _ not_here ∙ sym (cond-false _ _ _ not_here)) refl refl refl (sym (append-nil out)) refl ok

  call_edge : (o : Option CabinetNo) → ((v : CabinetNo) → o ≡ Some v → (m.holder ≡ Neighbour v) × (m.asked ≡ false))
      → EdgeOk (seen (Neighbour u) (marked o) far there (out ++ called u o) back)
  call_edge None h =
      ok_is _ _ (ap (λ t. cond (same (Neighbour u) m.holder) (cond t calling quiet) away) (sym (or_false m.asked))) refl refl refl (sym (append-nil out)) refl ok
  call_edge (Some v) h = let s = h v refl in call_neighbour v s.0 s.1 (eqb v.0 u.0) refl

  pub ask_edge : EdgeOk (seen (Neighbour u) (asking m) far there (out ++ called u (asks m)) back)
  ask_edge =
      call_edge (asks m) (λ v e.
      let s = some_asked (some m.queue && not m.asked) (neighbour m.holder) v e in
      let t = s.0 in
      (holder_of m.holder v s.1, grind arith))

-- the whole event, for one neighbour
pub event_edge : (u : CabinetNo) (m : Model) (e : Event) (far : Aim) (there : ℕ) (out back : List Message) → Due m e
    → times (Neighbour u) (acted m e).queue ≤ 1 → EdgeOk (seen (Neighbour u) m far there out (before u e back))
    → EdgeOk (seen (Neighbour u) (stepped m e) far there ((out ++ passed u (served (acted m e))) ++ called u (asks (assigned (acted m e)))) back)
event_edge u m e far there out back due once ok =
    ask_edge u (assigned (acted m e)) far there (out ++ passed u (served (acted m e))) back
    (assign_edge u (acted m e) far there out back once (act_edge u m far there out back e due ok))
