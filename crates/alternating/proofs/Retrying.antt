-- The retry post, a sender and a receiver for each lane, is a post, and its calls by its own rules are calls of a post.
use Rattle.std.proofs.Common.{◌≡◌, ℕ, ◌<◌, ◌≤◌, ◌⊎◌, List, [], length, Some, None, Option, Result, sym, refl, ap, ◌∙◌, subst, inl, inr, ⊎_elim, arith}
use Rattle.std.proofs.lemmas.Bool.{cases_eq, cases_lt}
use Rattle.cable.specs.Numbers.{lanes}
use Rattle.cable.specs.declared.message.Message.{Message}
use Rattle.cable.specs.declared.refusal.Refusal.{Refusal}
use Rattle.wiring.specs.Wirings.{WiringModel, WiringSound, Sends, Takes}
use Rattle.post.specs.Posts.{PostSame, OtherLanes, Joins, Puts, Gives, Holds, Pulls}
use Rattle.alternating.proofs.Rounding.{Apart, Outcome, round_comes_to}
use Rattle.alternating.proofs.OneLane.{
  allowance_bound,
  allowance_mono,
  patience_small,
  waiting_added,
  sound_added,
  allowance_added,
  Gave,
  Held,
  outcome_sound,
  outcome_some,
  outcome_empty,
}
use Rattle.alternating.specs.Lanes.{LaneModel, LaneSound, waiting_in, added}
use Rattle.alternating.specs.Retry.{RetryModel, RetrySound, Unchanged, RetryPuts, RetryPulls, patience_over, allowance_of, post_of, RetryIsAPost, RetryPutsAsAPost, RetryPullsAsAPost}
use Rattle.alternating.specs.Rounds.{frame_wire, answer_wire, Round}

-- the allowance of a lane m over a wiring
abbrev allowance_over : ℕ → LaneModel → WiringModel → ℕ
allowance_over l m w = allowance_of m w.misses (w.spare (frame_wire l)) (w.spare (answer_wire l))

over_bound : (l : ℕ) (m : LaneModel) (w : WiringModel) → WiringSound w → allowance_over l m w ≤ patience_over w.misses
over_bound l m w s = allowance_bound m w.misses _ _ (s.spares (frame_wire l)) (s.spares (answer_wire l))

pub retry_is_a_post : RetryIsAPost
retry_is_a_post s h =
    record {
      bounded = patience_small s.wiring.misses h.wiring.few;
      allowances = λ l. over_bound l (s.lane l) s.wiring h.wiring;
      few = λ l. (h.lane l).few;
    }

module _ (s t : RetryModel) where
  -- lanes and wiring as before
  module _ (u : Unchanged s t) where
    unchanged_post : PostSame (post_of s) (post_of t)
    unchanged_post =
        record {
          waiting = λ l. ap waiting_in (u.lane l);
          allowance = λ l. ap (λ m. allowance_over l m t.wiring) (u.lane l) ∙ ap (allowance_over l (s.lane l)) u.wiring;
        }

    unchanged_sound : RetrySound s → RetrySound t
    unchanged_sound h =
        record { wiring = subst WiringSound (sym u.wiring) h.wiring; lane = λ l. subst LaneSound (sym (u.lane l)) (h.lane l) }

  -- the wires of another lane are other wires
  apart_allows : (l j : ℕ) → Apart l s.wiring t.wiring → (j ≡ l → ⊥) → t.lane j ≡ s.lane j
      → allowance_over j (t.lane j) t.wiring ≤ allowance_over j (s.lane j) s.wiring
  apart_allows l j a ne is =
      let same_lane = ap (λ m. allowance_over j m t.wiring) is in
      let same_misses =
      ap (λ M. allowance_of (s.lane j) M (t.wiring.spare (frame_wire j)) (t.wiring.spare (answer_wire j))) a.constant.misses in
      omega (
        arith,
        same_lane,
        same_misses,
        allowance_mono (s.lane j) s.wiring.misses _ _ _ _
            (a.spare (frame_wire j) (λ e. ne (omega arith)) (λ e. omega arith))
            (a.spare (answer_wire j) (λ e. omega arith) (λ e. ne (omega arith))),
      )

  module _ (l : ℕ) (x : Message) (r : Result (Unit {0}) Refusal) (h : RetrySound s) (p : RetryPuts s l x r t) where
    put_joins : l < lanes → length (waiting_in (s.lane l)) < 4 → Joins l x (post_of s) (post_of t)
    put_joins lt room =
        let is = (p.done lt room).1 in
        let over = ap (λ m. allowance_over l m t.wiring) is ∙ ap (allowance_over l (added x (s.lane l))) p.wiring in
        record {
          end = ap waiting_in is ∙ waiting_added (s.lane l) x (h.lane l);
          first = λ none. omega (arith, over, over_bound l (added x (s.lane l)) s.wiring h.wiring);
          behind = λ some. omega (arith, over, allowance_added (s.lane l) x s.wiring.misses (s.wiring.spare (frame_wire l)) (s.wiring.spare (answer_wire l)) some);
        }

    put_others : OtherLanes l (post_of s) (post_of t)
    put_others =
        record {
          waiting = λ j ne. ap waiting_in (p.others j ne);
          allowance =
              λ j ne.
              omega (arith, ap (λ m. allowance_over j m t.wiring) (p.others j ne) ∙ ap (allowance_over j (s.lane j)) p.wiring);
        }

    put_lane : LaneSound (t.lane l)
    put_lane =
        ⊎_elim
        (λ lt.
        ⊎_elim (λ room. subst LaneSound (sym (p.done lt room).1) (sound_added (s.lane l) x (h.lane l) room))
        (λ four. (unchanged_sound (p.full lt four).1 h).lane l) (cases_lt (length (waiting_in (s.lane l))) 4))
        (λ ge. (unchanged_sound (p.no_lane ge).1 h).lane l) (cases_lt l lanes)

    puts : Puts (post_of s) l x r (post_of t)
    puts =
        record {
          patience = ap (λ w. patience_over w.misses) p.wiring;
          no_lane = λ ge. ((p.no_lane ge).0, unchanged_post (p.no_lane ge).1);
          full = λ lt four. let d = p.full lt (omega arith) in (d.0, unchanged_post d.1);
          done = λ lt room. ((p.done lt room).0, put_joins lt room, put_others);
        }

    put_sound : RetrySound t
    put_sound =
        record {
          wiring = subst WiringSound (sym p.wiring) h.wiring;
          lane =
              λ j.
              ⊎_elim (λ e. subst (λ k. LaneSound (t.lane k)) (sym e) put_lane) (λ ne. subst LaneSound (sym (p.others j ne)) (h.lane j))
              (cases_eq j l);
        }

  module _ (l : ℕ) (r : Result (Option Message) Refusal) (h : RetrySound s) (p : RetryPulls Sends Takes s l r t) where
    no_such_lane : lanes ≤ l → Pulls (post_of s) l r (post_of t) × RetrySound t
    no_such_lane ge =
        let u = (p.no_lane ge).1 in (
          record {
            patience = ap (λ w. patience_over w.misses) u.wiring;
            no_lane = λ _. ((p.no_lane ge).0, unchanged_post u);
            empty = λ lt. absurd (omega arith);
            some = λ lt. absurd (omega arith);
            others = λ lt. absurd (omega arith);
          },
          unchanged_sound u h,
        )

    idle : l < lanes → (s.lane l).outstanding ≡ None → Pulls (post_of s) l r (post_of t) × RetrySound t
    idle lt none =
        let u = (p.idle lt none).1 in
        let q = unchanged_post u in
        let sound = unchanged_sound u h in
        let listed : waiting_in (s.lane l) ≡ [] =
        ap (λ o. waiting_in (record { outstanding = o; behind = (s.lane l).behind; sending = (s.lane l).sending; expected = (s.lane l).expected })) none in (
          record {
            patience = ap (λ w. patience_over w.misses) u.wiring;
            no_lane = λ ge. absurd (omega arith);
            empty = λ _ e. ((p.idle lt none).0, q.waiting l ∙ e, omega (arith, q.allowance l, over_bound l (s.lane l) s.wiring h.wiring));
            some = λ _ y ys e. absurd (grind arith);
            others =
                λ _. record { waiting = λ j ne. q.waiting j; allowance = λ j ne. omega (arith, q.allowance j) };
          },
          sound,
        )

    module _ (lt : l < lanes) (x : Message) (is : (s.lane l).outstanding ≡ Some x) where
      abbrev m : LaneModel
      m = record { outstanding = Some x; behind = (s.lane l).behind; sending = (s.lane l).sending; expected = (s.lane l).expected }

      lane_is : s.lane l ≡ m
      lane_is = ap (λ o. record { outstanding = o; behind = (s.lane l).behind; sending = (s.lane l).sending; expected = (s.lane l).expected }) is

      came :
          Apart l s.wiring t.wiring × WiringSound t.wiring
          × Outcome x m.behind m.sending m.expected s.wiring.misses (s.wiring.spare (frame_wire l)) (s.wiring.spare (answer_wire l))
          (t.wiring.spare (frame_wire l)) (t.wiring.spare (answer_wire l)) r (t.lane l)
      came =
          round_comes_to l lt x m.behind m.sending m.expected r (t.lane l) s.wiring t.wiring h.wiring
          (subst (λ n. Round Sends Takes l x n s.wiring r (t.lane l) t.wiring) lane_is (p.round lt x is))

      misses : t.wiring.misses ≡ s.wiring.misses
      misses = came.0.constant.misses

      bound : (post_of t).allowance l ≤ (post_of s).patience
      bound = omega (arith, over_bound l (t.lane l) t.wiring came.1, ap patience_over misses)

      held : (y : Message) (ys : List Message)
          → Gave y ys r (t.lane l) ⊎ Held m r (t.lane l) (allowance_over l m s.wiring)
          (allowance_of (t.lane l) s.wiring.misses (t.wiring.spare (frame_wire l)) (t.wiring.spare (answer_wire l)))
          → Gives l y ys (post_of s) r (post_of t) ⊎ Holds l (post_of s) r (post_of t)
      held y ys (inl g) = inl (record { given = g.given; rest = g.rest; renewed = bound })
      held y ys (inr g) =
          inr
          (record {
            nothing = g.nothing;
            stays = g.stays ∙ ap waiting_in (sym lane_is);
            falls =
                omega (
                  arith,
                  g.falls,
                  ap (λ n. allowance_over l n s.wiring) lane_is,
                  ap (λ M. allowance_of (t.lane l) M (t.wiring.spare (frame_wire l)) (t.wiring.spare (answer_wire l))) misses,
                );
          })

      round : Pulls (post_of s) l r (post_of t) × RetrySound t
      round = (
        record {
          patience = ap patience_over misses;
          no_lane = λ ge. absurd (omega arith);
          empty =
              λ _ e.
              let o = outcome_empty x m.behind m.sending m.expected _ _ _ _ _ r (t.lane l) came.2 (ap waiting_in (sym lane_is) ∙ e) in
              (o.0, o.1, bound);
          some =
              λ _ y ys e.
              held y ys
              (outcome_some x m.behind m.sending m.expected _ _ _ _ _ r (t.lane l) came.2 y ys (ap waiting_in (sym lane_is) ∙ e));
          others =
              λ _.
              record {
                waiting = λ j ne. ap waiting_in (p.others j ne);
                allowance = λ j ne. apart_allows l j came.0 ne (p.others j ne);
              };
        },
        record {
          wiring = came.1;
          lane =
              λ j.
              ⊎_elim
              (λ e.
              subst (λ k. LaneSound (t.lane k)) (sym e)
              (outcome_sound x m.behind m.sending m.expected _ _ _ _ _ r (t.lane l) (subst LaneSound lane_is (h.lane l)) came.2))
              (λ ne. subst LaneSound (sym (p.others j ne)) (h.lane j)) (cases_eq j l);
        },
      )

    by_outstanding : l < lanes → (o : Option Message) → (s.lane l).outstanding ≡ o → Pulls (post_of s) l r (post_of t) × RetrySound t
    by_outstanding lt None is = idle lt is
    by_outstanding lt (Some x) is = round lt x is

    pulls : Pulls (post_of s) l r (post_of t) × RetrySound t
    pulls = ⊎_elim (λ lt. by_outstanding lt (s.lane l).outstanding refl) no_such_lane (cases_lt l lanes)

pub retry_puts_as_a_post : RetryPutsAsAPost
retry_puts_as_a_post s t l x r h p = (puts s t l x r h p, put_sound s t l x r h p)

pub retry_pulls_as_a_post : RetryPullsAsAPost
retry_pulls_as_a_post s t l r h p = pulls s t l r h p
