-- A send on an empty wire, of the sender's frame or of the receiver's acknowledgement, is done: it is lost, and the spare falls, or one copy
-- of it flies or more, and nothing else.
use Rattle.std.proofs.Common.{◌≡◌, ℕ, zero, suc, ◌<◌, ◌≤◌, ◌⊎◌, List, [], ◌∷◌, ◌++◌, length, replicate, Ok, Result, ap, ◌∙◌, inl, inr, arith}
use Rattle.cable.specs.Numbers.{wires}
use Rattle.cable.specs.declared.refusal.Refusal.{Refusal}
use Rattle.wiring.specs.Wirings.{WiringModel, WiringSound, Constant, OtherWires, Loses, Keeps, Sends}
use Rattle.alternating.proofs.Sounding.{sound_after}

pub record Lost (wire : ℕ) (w v : WiringModel) : Type 0 where
  pub none : v.flying wire ≡ []
  pub falls : v.spare wire < w.spare wire

pub record Kept (wire : ℕ) (frame : List ℕ) (w v : WiringModel) : Type 0 where
  pub more : ℕ
  pub copies : v.flying wire ≡ frame ∷ replicate more frame
  pub renewed : v.spare wire ≤ w.misses

pub record Sent (wire : ℕ) (frame : List ℕ) (r : Result (Unit {0}) Refusal) (w v : WiringModel) : Type 0 where
  pub done : r ≡ Ok tt
  pub constant : Constant w v
  pub either : Lost wire w v ⊎ Kept wire frame w v
  pub others : OtherWires wire w v
  pub sound : WiringSound v

kept : (n wire : ℕ) (frame : List ℕ) (w v : WiringModel) → 1 ≤ n → w.flying wire ≡ [] → v.flying wire ≡ w.flying wire ++ replicate n frame
    → v.spare wire ≤ w.misses → Kept wire frame w v
kept zero wire frame w v some is joins renewed = absurd (omega arith)
kept (suc n) wire frame w v some is joins renewed =
    record { more = n; copies = joins ∙ ap (λ fs. fs ++ replicate (suc n) frame) is; renewed = renewed }

sent_either : (wire : ℕ) (frame : List ℕ) (w v : WiringModel) → WiringSound w → w.flying wire ≡ [] → Constant w v → OtherWires wire w v
    → Loses wire w v ⊎ Keeps wire frame w v → (Lost wire w v ⊎ Kept wire frame w v) × WiringSound v
sent_either wire frame w v s is c o (inl l) = (
  inl (record { none = l.stays ∙ is; falls = l.falls }),
  sound_after wire w v s c o (omega (arith, l.falls, s.spares wire)) (omega (arith, ap length (l.stays ∙ is))),
)
sent_either wire frame w v s is c o (inr k) =
    (inr (kept k.copies wire frame w v k.some is k.joins k.renewed), sound_after wire w v s c o k.renewed k.within)

pub sent : (wire : ℕ) (frame : List ℕ) (r : Result (Unit {0}) Refusal) (w v : WiringModel) → wire < wires → WiringSound w → w.flying wire ≡ []
    → Sends w wire frame r v → Sent wire frame r w v
sent wire frame r w v lt s is h =
    let d = h.done lt (omega (arith, ap length is, s.some_depth)) in
    let e = sent_either wire frame w v s is h.constant d.2 d.1 in
    record { done = d.0; constant = h.constant; either = e.0; others = d.2; sound = e.1 }
