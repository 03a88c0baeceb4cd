-- A sender and a receiver that go by a wiring's own rules go by what the wiring means, where its own rules imply those of the meaning.
use Rattle.std.proofs.Common.{ℕ, List, Some, None, Option, Result, ap}
use Rattle.std.proofs.lemmas.Result.{MatchResult-weaker}
use Rattle.cable.specs.declared.frame.Bit.{Bit}
use Rattle.cable.specs.declared.message.Message.{Message}
use Rattle.cable.specs.declared.refusal.Refusal.{Refusal}
use Rattle.alternating.specs.Arrivals.{receive_all}
use Rattle.alternating.specs.Lanes.{LaneModel}
use Rattle.alternating.specs.Retry.{RetryState, Unchanged, RetryPuts, RetryPulls, read_by}
use Rattle.alternating.specs.Rounds.{
  SendRule,
  TakeRule,
  Taken,
  begun,
  further,
  Drains,
  Clears,
  Answers,
  TakesAnswers,
  Receives,
  Round,
}
use Rattle.alternating.specs.declared.lane.Received.{Received}

unchanged_meant : {W V : Type 0} (means : W → V) (s t : RetryState W) → Unchanged s t → Unchanged (read_by means s) (read_by means t)
unchanged_meant means s t u = record { lane = u.lane; wiring = ap means u.wiring }

pub puts_meant : {W V : Type 0} (means : W → V) (s t : RetryState W) (lane : ℕ) (x : Message) (r : Result (Unit {0}) Refusal)
    → RetryPuts s lane x r t → RetryPuts (read_by means s) lane x r (read_by means t)
puts_meant means s t lane x r p =
    record {
      no_lane = λ ge. ((p.no_lane ge).0, unchanged_meant means s t (p.no_lane ge).1);
      full = λ lt four. ((p.full lt four).0, unchanged_meant means s t (p.full lt four).1);
      done = p.done;
      others = p.others;
      wiring = ap means p.wiring;
    }

module _ {W V : Type 0} (means : W → V) (Send : SendRule W) (Send' : SendRule V) (Take : TakeRule W) (Take' : TakeRule V)
    (send : (w v : W) (wire : ℕ) (f : List ℕ) (r : Result (Unit {0}) Refusal) → Send w wire f r v → Send' (means w) wire f r (means v))
    (take : (w v : W) (wire : ℕ) (r : Result (Option (List ℕ)) Refusal) → Take w wire r v → Take' (means w) wire r (means v)) where
  taken_meant : (wire : ℕ) (w v : W) (frames : List (List ℕ)) → Taken Take wire w frames v → Taken Take' wire (means w) frames (means v)
  taken_meant wire w v _ begun = begun
  taken_meant wire w v _ (further {fs = fs} {v = u} {f = f} c t) = further (taken_meant wire w u fs c) (take u v wire _ t)

  drains_meant : (wire : ℕ) (w v : W) (frames : List (List ℕ)) → Drains Take wire w frames v → Drains Take' wire (means w) frames (means v)
  drains_meant wire w v frames d =
      record {
        last = means d.last;
        taken = taken_meant wire w d.last frames d.taken;
        nothing = take d.last v wire _ d.nothing;
      }

  clears_meant : (lane : ℕ) (w v : W) → Clears Take lane w v → Clears Take' lane (means w) (means v)
  clears_meant lane w v c =
      record {
        old_frames = c.old_frames;
        old_answers = c.old_answers;
        between = means c.between;
        frames = drains_meant _ _ _ _ c.frames;
        answers = drains_meant _ _ _ _ c.answers;
      }

  answers_meant : (lane : ℕ) (come : Option Bit) (w : W) (r : Result (Unit {0}) Refusal) (v : W) → Answers Send lane come w r v
      → Answers Send' lane come (means w) r (means v)
  answers_meant lane None w r v a = (a.0, ap means a.1)
  answers_meant lane (Some b) w r v a = send _ _ _ _ _ a

  module _ (lane : ℕ) (r : Result (Option Message) Refusal) (n : LaneModel) (v : W) where
    takes_answers_meant : (h : LaneModel × Received) (w : W) → TakesAnswers Take lane h w r n v → TakesAnswers Take' lane h (means w) r n (means v)
    takes_answers_meant h w a =
        record { answers = a.answers; drains = drains_meant _ _ _ _ a.drains; after = a.after; value = a.value }

    receives_meant : (m : LaneModel) (w : W) → Receives Send Take lane m w r n v → Receives Send' Take' lane m (means w) r n (means v)
    receives_meant m w c =
        record {
          frames = c.frames;
          received = means c.received;
          sent = c.sent;
          answering = means c.answering;
          drains = drains_meant _ _ _ _ c.drains;
          answers = answers_meant lane (receive_all lane m c.frames).1.come _ _ _ c.answers;
          onward =
              MatchResult-weaker c.sent c.onward (λ _ a. takes_answers_meant (receive_all lane m c.frames) c.answering a)
              (λ why e. (e.0, e.1, ap means e.2));
        }

    pub round_meant : (x : Message) (m : LaneModel) (w : W) → Round Send Take lane x m w r n v → Round Send' Take' lane x m (means w) r n (means v)
    round_meant x m w c =
        record {
          cleared = means c.cleared;
          sent = c.sent;
          sending = means c.sending;
          clears = clears_meant _ _ _ c.clears;
          sends = send _ _ _ _ _ c.sends;
          onward =
              MatchResult-weaker c.sent c.onward (λ _ a. receives_meant m c.sending a) (λ why e. (e.0, e.1, ap means e.2));
        }

  pub pulls_meant : (s t : RetryState W) (lane : ℕ) (r : Result (Option Message) Refusal) → RetryPulls Send Take s lane r t
      → RetryPulls Send' Take' (read_by means s) lane r (read_by means t)
  pulls_meant s t lane r p =
      record {
        no_lane = λ ge. ((p.no_lane ge).0, unchanged_meant means s t (p.no_lane ge).1);
        idle = λ lt none. ((p.idle lt none).0, unchanged_meant means s t (p.idle lt none).1);
        round = λ lt x is. round_meant lane r (t.lane lane) t.wiring x (s.lane lane) s.wiring (p.round lt x is);
        others = p.others;
      }
