-- A round leaves the lane sound, whatever became of its frames and whoever refused them.
use Rattle.std.proofs.Common.{◌≡◌, ℕ, ◌<◌, Some, None, Option, Result, sym, refl, ap, subst}
use Rattle.cable.specs.Numbers.{lanes}
use Rattle.cable.specs.declared.message.Message.{Message}
use Rattle.cable.specs.declared.refusal.Refusal.{Refusal}
use Rattle.wiring.specs.Wirings.{WiringModel, WiringSound, Sends, Takes}
use Rattle.alternating.proofs.Rounding.{round_comes_to}
use Rattle.alternating.proofs.OneLane.{outcome_sound}
use Rattle.alternating.specs.Lanes.{LaneModel, LaneSound}
use Rattle.alternating.specs.Rounds.{Round}

abbrev with_outstanding : LaneModel → Option Message → LaneModel
with_outstanding m o = record { outstanding = o; behind = m.behind; sending = m.sending; expected = m.expected }

module _ (l : ℕ) (lt : l < lanes) (m n : LaneModel) (w v : WiringModel) (r : Result (Option Message) Refusal) (s : LaneSound m) (over : WiringSound w) where
  after_round : (x : Message) → m.outstanding ≡ Some x → Round Sends Takes l x m w r n v → LaneSound n
  after_round x is c =
      let lane_is : m ≡ with_outstanding m (Some x) = ap (with_outstanding m) is in
      outcome_sound x m.behind m.sending m.expected _ _ _ _ _ r n (subst LaneSound lane_is s)
      (round_comes_to l lt x m.behind m.sending m.expected r n w v over
      (subst (λ k. Round Sends Takes l x k w r n v) lane_is c)).2

  by_outstanding : (o : Option Message) → m.outstanding ≡ o → (m.outstanding ≡ None → n ≡ m)
      → ((x : Message) → m.outstanding ≡ Some x → Round Sends Takes l x m w r n v) → LaneSound n
  by_outstanding None is idle c = subst LaneSound (sym (idle is)) s
  by_outstanding (Some x) is idle c = after_round x is (c x is)

  pub round_sound : (m.outstanding ≡ None → n ≡ m) → ((x : Message) → m.outstanding ≡ Some x → Round Sends Takes l x m w r n v) → LaneSound n
  round_sound = by_outstanding m.outstanding refl
