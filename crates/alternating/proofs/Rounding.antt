-- One round over any sound wiring: the sender's frame is lost, or it comes through and the receiver's acknowledgement is lost, or both
-- come through.
use Rattle.std.proofs.Common.{◌≡◌, ℕ, ◌<◌, ◌≤◌, cond, ◌⊎◌, List, [], ◌∷◌, replicate, Some, None, Ok, Err, Option, Result, sym, ap, ◌∙◌, subst, inl, inr, ⊎_elim, arith}
use Rattle.std.proofs.lemmas.Result.{MatchResult-at_ok}
use Rattle.std.proofs.lemmas.Bool.{cases_eq}
use Rattle.cable.specs.Frames.{bytes_of}
use Rattle.cable.specs.Numbers.{lanes, wires}
use Rattle.cable.specs.Worked.{frame}
use Rattle.cable.specs.declared.frame.Bit.{Bit}
use Rattle.cable.specs.declared.frame.Kind.TheVariants.{Carry, Answer}
use Rattle.cable.specs.declared.message.Message.{Message}
use Rattle.cable.specs.declared.refusal.Refusal.{Refusal}
use Rattle.wiring.specs.Wirings.{WiringModel, WiringSound, Constant, Sends, Takes}
use Rattle.alternating.proofs.Draining.{Drained, drained, drained_sound}
use Rattle.alternating.proofs.Receiving.{delivered, next, come_through, receive_copies, answered_copies, message_read, answer_read}
use Rattle.alternating.proofs.Sending.{Lost, Kept, Sent, sent}
use Rattle.alternating.specs.Arrivals.{receive_all, answered_by_all}
use Rattle.alternating.specs.Lanes.{LaneModel, same}
use Rattle.alternating.specs.declared.lane.Received.{Received}
use Rattle.alternating.specs.Rounds.{frame_wire, answer_wire, Clears, TakesAnswers, Answers, Receives, Round}

-- no spare rises
pub record Eases (w v : WiringModel) : Type 0 where
  pub constant : Constant w v
  pub spare : (k : ℕ) → v.spare k ≤ w.spare k

-- no spare rises but on the wires of one lane
pub record Apart (l : ℕ) (w v : WiringModel) : Type 0 where
  pub constant : Constant w v
  pub spare : (k : ℕ) → (k ≡ frame_wire l → ⊥) → (k ≡ answer_wire l → ⊥) → v.spare k ≤ w.spare k

constants : (w u v : WiringModel) → Constant w u → Constant u v → Constant w v
constants w u v c d = record { misses = d.misses ∙ c.misses; depth = d.depth ∙ c.depth }

eases : (wire : ℕ) (w v : WiringModel) (frames : List (List ℕ)) → Drained wire frames w v → Eases w v
eases wire w v frames d =
    record {
      constant = d.constant;
      spare = λ k. ⊎_elim (λ e. rw e d.spare) (λ ne. d.others.spare k ne) (cases_eq k wire);
    }

-- both wires of the lane are empty
pub record Quiet (l : ℕ) (w : WiringModel) : Type 0 where
  pub sound : WiringSound w
  pub frames : w.flying (frame_wire l) ≡ []
  pub answers : w.flying (answer_wire l) ≡ []

-- what a round comes to, for the lane with x outstanding before: its answer r, the lane n after, the spares f and g before, f' and g' after
pub data Outcome (x : Message) (behind : List Message) (b e : Bit) (M f g f' g' : ℕ) (r : Result (Option Message) Refusal) (n : LaneModel) : Type 0 where
  frame_lost : r ≡ Ok None → n ≡ record { outstanding = Some x; behind = behind; sending = b; expected = e } → f' < f → g' ≤ g
      → Outcome x behind b e M f g f' g' r n
  answer_lost : r ≡ Ok (cond (same b e) (Some x) None) → n ≡ delivered x behind b → f' ≤ M → g' < g
      → Outcome x behind b e M f g f' g' r n
  both_through : r ≡ Ok (cond (same b e) (Some x) None) → n ≡ next behind b → f' ≤ M → g' ≤ M
      → Outcome x behind b e M f g f' g' r n

module _ (l : ℕ) (lt : l < lanes) where
  frame_wire_fits : frame_wire l < wires
  frame_wire_fits = omega arith

  answer_wire_fits : answer_wire l < wires
  answer_wire_fits = omega arith

  wires_apart : frame_wire l ≡ answer_wire l → ⊥
  wires_apart e = omega arith

  wires_apart' : answer_wire l ≡ frame_wire l → ⊥
  wires_apart' e = omega arith

  cleared : (w v : WiringModel) → WiringSound w → Clears Takes l w v → Quiet l v × Eases w v
  cleared w v s c =
      let a = drained (frame_wire l) w c.between c.old_frames frame_wire_fits c.frames in
      let b = drained (answer_wire l) c.between v c.old_answers answer_wire_fits c.answers in
      let p = eases _ _ _ _ a in
      let q = eases _ _ _ _ b in (
        record {
          sound = drained_sound _ _ _ _ b (drained_sound _ _ _ _ a s);
          frames = b.others.flying (frame_wire l) wires_apart ∙ a.empty;
          answers = b.empty;
        },
        record {
          constant = constants _ _ _ p.constant q.constant;
          spare = λ k. omega (arith, p.spare k, q.spare k);
        },
      )

  -- what the frames on the wire come to
  module _ (m : LaneModel) (w v : WiringModel) (r : Result (Option Message) Refusal) (n : LaneModel) (c : Receives Sends Takes l m w r n v) (H : LaneModel × Received)
      (is : receive_all l m c.frames ≡ H) where
    answering : Answers Sends l H.1.come c.received c.sent c.answering
    answering = subst (λ h. Answers Sends l h.1.come c.received c.sent c.answering) is c.answers

    taking_answers : c.sent ≡ Ok tt → TakesAnswers Takes l H c.answering r n v
    taking_answers ok =
        subst (λ h. TakesAnswers Takes l h c.answering r n v) is
        (MatchResult-at_ok (λ _. TakesAnswers Takes l (receive_all l m c.frames) c.answering r n v)
        (λ why. (r ≡ Err why) × (n ≡ (receive_all l m c.frames).0) × (v ≡ c.answering)) tt ok c.onward)

  answers_taken : (h : LaneModel × Received) (w v : WiringModel) (r : Result (Option Message) Refusal) (n : LaneModel) (flying : List (List ℕ)) → WiringSound w
      → w.flying (answer_wire l) ≡ flying → TakesAnswers Takes l h w r n v
      → (r ≡ Ok h.1.accepted) × (n ≡ answered_by_all l h.0 flying) × Eases w v × WiringSound v
  answers_taken h w v r n flying s is a =
      let d = drained (answer_wire l) w v a.answers answer_wire_fits a.drains in
      (a.value, a.after ∙ ap (answered_by_all l h.0) (d.all ∙ is), eases _ _ _ _ d, drained_sound _ _ _ _ d s)

  module _ (x : Message) (behind : List Message) (b e : Bit) (r : Result (Option Message) Refusal) (n : LaneModel) where
    abbrev m : LaneModel
    m = record { outstanding = Some x; behind = behind; sending = b; expected = e }

    abbrev carried : List ℕ
    carried = bytes_of (frame (Carry x) b l)

    abbrev answering_frame : List ℕ
    answering_frame = bytes_of (frame Answer b l)

    abbrev after_copies : LaneModel × Received
    after_copies = come_through x behind b (cond (same b e) (Some x) None)

    -- nothing came
    module _ (w v : WiringModel) (s : WiringSound w) (frames : w.flying (frame_wire l) ≡ []) (answers : w.flying (answer_wire l) ≡ [])
        (c : Receives Sends Takes l m w r n v) where
      nothing_came : (r ≡ Ok None) × (n ≡ m) × Eases w v × WiringSound v
      nothing_came =
          let d = drained (frame_wire l) w c.received c.frames frame_wire_fits c.drains in
          let is = ap (receive_all l m) (d.all ∙ frames) in
          let a = answering m w v r n c _ is in
          let quiet : c.answering.flying (answer_wire l) ≡ [] =
          ap (λ u. u.flying (answer_wire l)) a.1 ∙ d.others.flying (answer_wire l) wires_apart' ∙ answers in
          let sound = subst WiringSound (sym a.1) (drained_sound _ _ _ _ d s) in
          let ended = answers_taken _ c.answering v r n [] sound quiet (taking_answers m w v r n c _ is a.0) in
          let p = eases _ _ _ _ d in
          let p' = subst (λ u. Eases w u) (sym a.1) p in
          let q = ended.2 in
          (ended.0, ended.1, record { constant = constants _ _ _ p'.constant q.constant; spare = λ k. omega (arith, p'.spare k, q.spare k) }, ended.3)

    -- the frame came, and its answer is lost or comes through
    module _ (w v : WiringModel) (s : WiringSound w) (more : ℕ) (frames : w.flying (frame_wire l) ≡ carried ∷ replicate more carried)
        (answers : w.flying (answer_wire l) ≡ []) (c : Receives Sends Takes l m w r n v) where
      d : Drained (frame_wire l) c.frames w c.received
      d = drained (frame_wire l) w c.received c.frames frame_wire_fits c.drains

      is : receive_all l m c.frames ≡ after_copies
      is = ap (receive_all l m) (d.all ∙ frames) ∙ receive_copies l x behind b carried (message_read x b l lt) e more

      a : Sent (answer_wire l) answering_frame c.sent c.received c.answering
      a =
          sent (answer_wire l) answering_frame c.sent c.received c.answering answer_wire_fits (drained_sound _ _ _ _ d s)
          (d.others.flying (answer_wire l) wires_apart' ∙ answers) (answering m w v r n c after_copies is)

      k : TakesAnswers Takes l after_copies c.answering r n v
      k = taking_answers m w v r n c after_copies is a.done

      p : Eases w c.received
      p = eases _ _ _ _ d

      apart : Eases c.answering v → Apart l w v
      apart q =
          record {
            constant = constants _ _ _ p.constant (constants _ _ _ a.constant q.constant);
            spare = λ j ne ne'. omega (arith, p.spare j, a.others.spare j ne', q.spare j);
          }

      received_and_answered : (M f g : ℕ) → w.misses ≤ M → w.spare (frame_wire l) ≤ M → w.spare (answer_wire l) ≤ g
          → Lost (answer_wire l) c.received c.answering ⊎ Kept (answer_wire l) answering_frame c.received c.answering
          → Apart l w v × WiringSound v × Outcome x behind b e M f g (v.spare (frame_wire l)) (v.spare (answer_wire l)) r n
      received_and_answered M f g misses frame-spare answer-spare (inl lost) =
          let ended = answers_taken after_copies c.answering v r n [] a.sound lost.none k in
          let q = ended.2 in (
            apart q,
            ended.3,
            answer_lost ended.0 ended.1
                (omega (arith, p.spare (frame_wire l), a.others.spare (frame_wire l) wires_apart, q.spare (frame_wire l)))
                (omega (arith, p.spare (answer_wire l), lost.falls, q.spare (answer_wire l))),
          )
      received_and_answered M f g misses frame-spare answer-spare (inr kept) =
          let ended = answers_taken after_copies c.answering v r n _ a.sound kept.copies k in
          let q = ended.2 in (
            apart q,
            ended.3,
            both_through ended.0 (ended.1 ∙ answered_copies l x behind b answering_frame (answer_read b l lt) kept.more)
                (omega (arith, p.spare (frame_wire l), a.others.spare (frame_wire l) wires_apart, q.spare (frame_wire l)))
                (omega (arith, kept.renewed, p.constant.misses, q.spare (answer_wire l))),
          )

    module _ (w v : WiringModel) (s : WiringSound w) (c : Round Sends Takes l x m w r n v) where
      quiet : Quiet l c.cleared × Eases w c.cleared
      quiet = cleared w c.cleared s c.clears

      t : Sent (frame_wire l) carried c.sent c.cleared c.sending
      t = sent (frame_wire l) carried c.sent c.cleared c.sending frame_wire_fits quiet.0.sound quiet.0.frames c.sends

      receives : Receives Sends Takes l m c.sending r n v
      receives =
          MatchResult-at_ok (λ _. Receives Sends Takes l m c.sending r n v) (λ why. (r ≡ Err why) × (n ≡ m) × (v ≡ c.sending)) tt t.done
          c.onward

      no_answers : c.sending.flying (answer_wire l) ≡ []
      no_answers = t.others.flying (answer_wire l) wires_apart' ∙ quiet.0.answers

      sent_apart : Apart l c.sending v → Apart l w v
      sent_apart q =
          record {
            constant = constants _ _ _ quiet.1.constant (constants _ _ _ t.constant q.constant);
            spare = λ j ne ne'. omega (arith, quiet.1.spare j, t.others.spare j ne, q.spare j ne ne');
          }

      by_sending : Lost (frame_wire l) c.cleared c.sending ⊎ Kept (frame_wire l) carried c.cleared c.sending
          → Apart l w v × WiringSound v
          × Outcome x behind b e w.misses (w.spare (frame_wire l)) (w.spare (answer_wire l)) (v.spare (frame_wire l)) (v.spare (answer_wire l)) r n
      by_sending (inl lost) =
          let u = nothing_came c.sending v t.sound lost.none no_answers receives in
          let q = u.2 in (
            sent_apart (record { constant = q.constant; spare = λ j ne ne'. q.spare j }),
            u.3,
            frame_lost u.0 u.1 (omega (arith, quiet.1.spare (frame_wire l), lost.falls, q.spare (frame_wire l)))
                (omega (arith, quiet.1.spare (answer_wire l), t.others.spare (answer_wire l) wires_apart', q.spare (answer_wire l))),
          )
      by_sending (inr kept) =
          let u =
          received_and_answered c.sending v t.sound kept.more kept.copies no_answers receives w.misses (w.spare (frame_wire l))
          (w.spare (answer_wire l)) (omega (arith, t.constant.misses, quiet.1.constant.misses))
          (omega (arith, kept.renewed, quiet.1.constant.misses))
          (omega (arith, quiet.1.spare (answer_wire l), t.others.spare (answer_wire l) wires_apart'))
          (a c.sending v t.sound kept.more kept.copies no_answers receives).either in
          (sent_apart u.0, u.1, u.2)

      pub round_comes_to :
          Apart l w v × WiringSound v
          × Outcome x behind b e w.misses (w.spare (frame_wire l)) (w.spare (answer_wire l)) (v.spare (frame_wire l)) (v.spare (answer_wire l)) r n
      round_comes_to = by_sending t.either
