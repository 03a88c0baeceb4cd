-- The straight post is a post, and each of its calls is a call of a post.
use Rattle.std.specs.Prelude.{◌≡◌, ℕ, ◌≤◌, [], length, Option, Result, refl}
use Rattle.std.proofs.Common.{inl, ⊎_elim, sym, subst, arith}
use Rattle.std.proofs.lemmas.Bool.{cases_eq}
use Rattle.cable.proofs.Room.{contents_few}
use Rattle.cable.proofs.Tables.{of_every}
use Rattle.cable.specs.Rows.{contents}
use Rattle.cable.specs.declared.message.Message.{Message}
use Rattle.cable.specs.declared.refusal.Refusal.{Refusal}
use Rattle.post.specs.Posts.{PostSound, PostSame, OtherLanes, Puts, Pulls}
use Rattle.post.specs.Straights.{waiting_on, OnlyOn, StraightPuts, StraightPulls, straight_of}
use Rattle.post.specs.declared.straight.Straight.{Straight}

pub sound_so : (p : Straight) → PostSound (straight_of p)
sound_so p = record { bounded = omega arith; allowances = λ l. omega arith; few = of_every contents [] (λ ms. length ms ≤ 4) (omega arith) contents_few p.queues }

module _ (p q : Straight) (lane : ℕ) (others : OnlyOn lane p q) where
  same : waiting_on q lane ≡ waiting_on p lane → PostSame (straight_of p) (straight_of q)
  same here =
      record {
        waiting = λ l. ⊎_elim (λ e. subst (λ k. waiting_on q k ≡ waiting_on p k) (sym e) here) (others l) (cases_eq l lane);
        allowance = λ l. refl;
      }

  elsewhere : OtherLanes lane (straight_of p) (straight_of q)
  elsewhere = record { waiting = others; allowance = λ l ne. omega arith }

pub put_meant_so : (p q : Straight) (lane : ℕ) (m : Message) (r : Result (Unit {0}) Refusal) → StraightPuts p lane m r q
    → Puts (straight_of p) lane m r (straight_of q)
put_meant_so p q lane m r h =
    record {
      patience = refl;
      no_lane = λ ge. ((h.no_lane ge).0, same p q lane h.others (h.no_lane ge).1);
      full = λ lt four. ((h.full lt four).0, same p q lane h.others (h.full lt four).1);
      done =
          λ lt room. (
            (h.done lt room).0,
            record { end = (h.done lt room).1; first = λ _. omega arith; behind = λ _. omega arith },
            elsewhere p q lane h.others,
          );
    }

pub pull_meant_so : (p q : Straight) (lane : ℕ) (r : Result (Option Message) Refusal) → StraightPulls p lane r q
    → Pulls (straight_of p) lane r (straight_of q)
pull_meant_so p q lane r h =
    record {
      patience = refl;
      no_lane = λ ge. ((h.no_lane ge).0, same p q lane h.others (h.no_lane ge).1);
      empty = λ lt is. ((h.empty lt is).0, (h.empty lt is).1, omega arith);
      some = λ lt m ms is. inl (record { given = (h.given lt m ms is).0; rest = (h.given lt m ms is).1; renewed = omega arith });
      others = λ lt. elsewhere p q lane h.others;
    }
