-- Taking from a wire until a take gives nothing, as the receiver does and the sender for its acknowledgements: the frames that came
-- are all that flew, the wire is empty, and no spare has risen.
use Rattle.std.proofs.Common.{◌≡◌, ℕ, ◌<◌, ◌≤◌, true, false, List, [], ◌∷◌, ◌++◌, length, is_some, Some, None, Ok, Err, Option, sym, refl, ap, ◌∙◌, arith}
use Rattle.std.proofs.lemmas.List.{append_assoc, append-nil}
use Rattle.std.proofs.lemmas.Bool.{both_ways}
use Rattle.cable.specs.Numbers.{wires}
use Rattle.cable.specs.declared.refusal.Refusal.{Refusal}
use Rattle.wiring.specs.Wirings.{WiringModel, WiringSound, Constant, OtherWires, Takes}
use Rattle.alternating.proofs.Sounding.{sound_after}
use Rattle.alternating.specs.Rounds.{Taken, begun, further, Drains}

-- a take gave this frame: it was the oldest
pub oldest_given : (w v : WiringModel) (wire : ℕ) (f : List ℕ) (flying : List (List ℕ)) → wire < wires → w.flying wire ≡ flying
    → Takes w wire (Ok (Some f)) v → flying ≡ f ∷ v.flying wire
oldest_given w v wire f [] lt is t = absurd (let e = (t.empty lt is).0 in grind arith)
oldest_given w v wire f (g ∷ gs) lt is t = let e = t.oldest lt g gs is in let a = e.0 in let b = e.1 in grind arith

-- a take gave nothing: the wire was empty
pub nothing_given : (w v : WiringModel) (wire : ℕ) (flying : List (List ℕ)) → wire < wires → w.flying wire ≡ flying
    → Takes w wire (Ok None) v → (flying ≡ []) × (v.flying wire ≡ [])
nothing_given w v wire [] lt is t = (refl, (t.empty lt is).1)
nothing_given w v wire (g ∷ gs) lt is t = absurd (let e = (t.oldest lt g gs is).0 in grind arith)

-- below the number of wires a take is never refused
pub never_refused : (w v : WiringModel) (wire : ℕ) (why : Refusal) (flying : List (List ℕ)) → wire < wires → w.flying wire ≡ flying
    → Takes w wire (Err why) v → ⊥
never_refused w v wire why [] lt is t = let e = (t.empty lt is).0 in grind arith
never_refused w v wire why (g ∷ gs) lt is t = let e = (t.oldest lt g gs is).0 in grind arith

-- each frame that is taken leaves fewer
pub fewer : (w v : WiringModel) (wire : ℕ) (o : Option (List ℕ)) → wire < wires → is_some o ≡ true → Takes w wire (Ok o) v
    → length (v.flying wire) < length (w.flying wire)
fewer w v wire None lt some t = absurd (both_ways false refl some)
fewer w v wire (Some f) lt some t = omega (arith, ap length (oldest_given w v wire f _ lt refl t))

pub record Took (wire : ℕ) (frames : List (List ℕ)) (w v : WiringModel) : Type 0 where
  pub constant : Constant w v
  pub given : w.flying wire ≡ frames ++ v.flying wire
  pub spare : v.spare wire ≤ w.spare wire
  pub others : OtherWires wire w v

took : (wire : ℕ) (w v : WiringModel) (frames : List (List ℕ)) → wire < wires → Taken Takes wire w frames v → Took wire frames w v
took wire w v [] lt begun =
    record {
      constant = record { misses = refl; depth = refl };
      given = refl;
      spare = omega arith;
      others = record { flying = λ k ne. refl; spare = λ k ne. omega arith };
    }
took wire w v _ lt (further {fs = fs} {v = u} {f = f} c t) =
    let before = took wire w u fs lt c in
    let oldest = oldest_given u v wire f _ lt refl t in
    let now = t.spare lt in
    let others = t.others lt in
    record {
      constant = record { misses = cc; depth = cc };
      given = before.given ∙ ap (λ gs. fs ++ gs) oldest ∙ sym (append_assoc fs (f ∷ []) (v.flying wire));
      spare = omega arith;
      others =
          record {
            flying = λ k ne. others.flying k ne ∙ before.others.flying k ne;
            spare = λ k ne. omega (arith, others.spare k ne, before.others.spare k ne);
          };
    }

pub record Drained (wire : ℕ) (frames : List (List ℕ)) (w v : WiringModel) : Type 0 where
  pub constant : Constant w v
  pub all : frames ≡ w.flying wire
  pub empty : v.flying wire ≡ []
  pub spare : v.spare wire ≤ w.spare wire
  pub others : OtherWires wire w v

pub drained : (wire : ℕ) (w v : WiringModel) (frames : List (List ℕ)) → wire < wires → Drains Takes wire w frames v → Drained wire frames w v
drained wire w v frames lt d =
    let before = took wire w d.last frames lt d.taken in
    let ended = nothing_given d.last v wire _ lt refl d.nothing in
    let now = d.nothing.spare lt in
    let others = d.nothing.others lt in
    let kept = d.nothing.constant in
    record {
      constant = record { misses = kept.misses ∙ before.constant.misses; depth = kept.depth ∙ before.constant.depth };
      all = sym (before.given ∙ ap (λ gs. frames ++ gs) ended.0 ∙ append-nil frames);
      empty = ended.1;
      spare = omega (arith, now, before.spare);
      others =
          record {
            flying = λ k ne. others.flying k ne ∙ before.others.flying k ne;
            spare = λ k ne. omega (arith, others.spare k ne, before.others.spare k ne);
          };
    }

pub drained_sound : (wire : ℕ) (w v : WiringModel) (frames : List (List ℕ)) → Drained wire frames w v → WiringSound w → WiringSound v
drained_sound wire w v frames d s =
    sound_after wire w v s d.constant d.others (omega (arith, d.spare, s.spares wire))
    (omega (arith, ap length d.empty))
