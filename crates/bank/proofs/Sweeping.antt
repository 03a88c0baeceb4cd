-- A sweep, lane by lane.
use Rattle.std.proofs.Common.{◌≡◌, ℕ, suc, ◌+◌, ◌<◌, Bool, true, false, cond, List, Some, None, Ok, Err, Option, Result, sym, refl, ap, ◌∙◌, subst, add-one, arith, min, slice_index}
use Rattle.cable.proofs.Room.{contents_few}
use Rattle.std.specs.Bool.{then_some}
use Rattle.std.specs.Option.{option_or}
use Rattle.cabinet.specs.declared.event.Event.{Event}
use Rattle.cabinet.specs.declared.event.Reaction.{Reaction}
use Rattle.cable.specs.Numbers.{lanes}
use Rattle.cable.specs.declared.message.Message.{Message}
use Rattle.cable.specs.declared.number.CabinetNo.{CabinetNo}
use Rattle.cable.specs.declared.refusal.Refusal.{Refusal}
use Rattle.promise.specs.Banks.{Transport, Bank as Model, with_post, with_waits}
use Rattle.promise.specs.Calls as calls
use Rattle.promise.specs.Calls.{Sweeps, bare}
use Rattle.promise.specs.Events.{Happens}
use Rattle.promise.specs.Sweeps as sweeps
use Rattle.promise.specs.Sweeps.{Reads, nothing, brings, arrival, entering, Through, further, latest, counted}
use Rattle.tree.specs.Planted.{cabinets, parents_of}
use Rattle.tree.specs.Trees.{ends_of, lanes_of}
use Rattle.tree.specs.declared.tree.Tree.{Tree}
use Rattle.bank.specs.Parts.{entrant, Brings, Swept}

abbrev numbers_of : Option (CabinetNo × CabinetNo) → Option (ℕ × ℕ)
numbers_of None = None
numbers_of (Some w) = Some (w.0.0, w.1.0)

ends_told : (o : Option (ℕ × ℕ)) (from to : CabinetNo) → cabinets o ≡ Some (from, to) → o ≡ Some (from.0, to.0)
ends_told None from to e = absurd (grind arith)
ends_told (Some w) from to e = ap numbers_of e

went_in : (s : Bool) (n : CabinetNo) → entrant (then_some s n) ≡ cond s (Some n.0) None
went_in true n = refl
went_in false n = refl

-- a message m comes off the lane, which is the event e at its end
module _ {P : Type 0} (T : Transport P) (b c : Model P) (l : ℕ) (m : Message) (from to : CabinetNo)
    (ends : Some (from, to) ≡ cabinets (ends_of b.parents l)) (e : Event) (is : e ≡ arrival m from.0) where
  brought : (r : Result Reaction Refusal) → Happens T b to.0 e r c → Brings T b l m (entering to.0 r) c
  brought r h =
      record {
        from = from.0;
        to = to.0;
        reaction = r;
        ends = ends_told _ from to (sym ends);
        happens = subst (λ v. Happens T b to.0 v r c) is h;
        answer = refl;
      }

  pub brought_stopped : (why : Refusal) → Happens T b to.0 e (Err why) c → Brings T b l m (Err why) c
  brought_stopped why h = brought (Err why) h

  pub brought_done : (a : Reaction) (o : Option CabinetNo) → o ≡ then_some a.entered to → Happens T b to.0 e (Ok a) c → Brings T b l m (Ok (entrant o)) c
  brought_done a o told h = subst (λ v. Brings T b l m (Ok v) c) (sym (ap entrant told ∙ went_in a.entered to)) (brought (Ok a) h)

pub delivered : {P : Type 0} (T : Transport P) (b c : Model P) (l : ℕ) (p : P) (o : Option Message) (m : Message) (r : Result (Option ℕ) Refusal)
    → T.pulls b.post l (Ok o) p → o ≡ Some m → Brings T (with_post b p) l m r c → Reads T b l r c
delivered T b c l p o m r pulled came h =
    subst (λ v. Reads T b l v c) (sym h.answer) (brings (subst (λ v. T.pulls b.post l (Ok v) p) came pulled) h.ends h.happens)

pub pull_refused : {P : Type 0} (T : Transport P) (b : Model P) (l : ℕ) (p : P) (why : Refusal) → T.pulls b.post l (Err why) p
    → Reads T b l (Err why) (with_post b p)
pull_refused T b l p why pulled = sweeps.refused pulled

pub nothing_came : {P : Type 0} (T : Transport P) (b : Model P) (l : ℕ) (p : P) (o : Option Message) → T.pulls b.post l (Ok o) p → o ≡ None
    → Reads T b l (Ok None) (with_post b p)
nothing_came T b l p o pulled none = nothing (subst (λ v. T.pulls b.post l (Ok v) p) none pulled)

-- no tree has more lanes than there are
pub all_lanes : (t : Tree) (n end : ℕ) → n ≡ lanes_of (parents_of t) → end ≡ min n lanes → end ≡ lanes_of (parents_of t)
all_lanes t n end is least = omega (arith, is, least, contents_few t.parents)

-- who went in later counts
later_in : (old new : Option CabinetNo) → entrant (option_or new old) ≡ latest (entrant old) (entrant new)
later_in old None = refl
later_in old (Some n) = refl

module _ {P : Type 0} (T : Transport P) (b : Model P) where
  pub through_more : (l : ℕ) (old new last : Option CabinetNo) (c d : Model P) → last ≡ option_or new old → Through T b l (entrant old) c
      → Reads T c l (Ok (entrant new)) d → Through T b (l + 1) (entrant last) d
  through_more l old new last c d is before reads =
      subst (λ k. Through T b k (entrant last) d) (sym (add-one l))
      (subst (λ o. Through T b (suc l) o d) (sym (ap entrant is ∙ later_in old new)) (further before reads))

  -- a lane stops the reading
  pub through_to : (l : ℕ) (last : Option CabinetNo) (c d : Model P) (why : Refusal) → l < lanes_of b.parents → Through T b l (entrant last) c
      → Reads T c l (Err why) d → Swept T b (Err why) d
  through_to l last c d why below h reads = sweeps.stopped h below reads

  pub through_all : (l : ℕ) (last : Option CabinetNo) (c : Model P) → l ≡ lanes_of b.parents → Through T b l (entrant last) c → Swept T b (Ok last) c
  through_all l last c is h = sweeps.done (subst (λ k. Through T b k (entrant last) c) is h)

-- a planted bank is swept: its wait counts have grown to ws before its lanes are read
module _ {P : Type 0} (T : Transport P) (b : Model P) (ws : List ℕ) (c : Model P) (planted : bare b ≡ false) (is : ws ≡ counted b.views b.waits) where
  grown : (r : Result (Option CabinetNo) Refusal) → Swept T (with_waits b ws) r c → Swept T (with_waits b (counted b.views b.waits)) r c
  grown r h = subst (λ v. Swept T (with_waits b v) r c) is h

  pub sweep_stopped : (why : Refusal) → Swept T (with_waits b ws) (Err why) c → Sweeps T b (Err why) c
  sweep_stopped why h = calls.swept planted (grown (Err why) h)

  pub nobody_in : (last : Option CabinetNo) → Swept T (with_waits b ws) (Ok last) c → last ≡ None → Sweeps T b (Ok None) c
  nobody_in last h e = calls.swept planted (subst (λ o. Swept T (with_waits b (counted b.views b.waits)) (Ok o) c) e (grown (Ok last) h))

  pub somebody_in : (last : Option CabinetNo) (n : CabinetNo) (w : ℕ) → Swept T (with_waits b ws) (Ok last) c → last ≡ Some n → w ≡ slice_index c.waits n.0
      → Sweeps T b (Ok (Some (n.0, w))) c
  somebody_in last n w h e told =
      subst (λ v. Sweeps T b (Ok (Some (n.0, v))) c) (sym told)
      (calls.swept planted (subst (λ o. Swept T (with_waits b (counted b.views b.waits)) (Ok o) c) e (grown (Ok last) h)))
