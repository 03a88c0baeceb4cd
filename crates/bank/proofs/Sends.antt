-- What a cabinet sends, message by message, and the event that it belongs to.
use Rattle.std.proofs.Common.{◌≡◌, ℕ, Bool, true, false, cond, ltb, List, [], ◌∷◌, ◌++◌, get_or, set, Some, None, Ok, Err, Option, Result, sym, refl, ap, ◌∙◌, subst, arith}
use Rattle.std.proofs.lemmas.List.{set-get_or}
use Rattle.cable.specs.declared.message.Message.{Message}
use Rattle.cable.specs.declared.message.Message.TheVariants.{Request as REQUEST, Privilege as PRIVILEGE}
use Rattle.cable.specs.declared.number.CabinetNo.{CabinetNo}
use Rattle.cable.specs.declared.refusal.Refusal.{Refusal}
use Rattle.cable.specs.declared.refusal.Refusal.TheVariants.{NoSuchCabinet}
use Rattle.cabinet.specs.Kept.{near_by}
use Rattle.cabinet.specs.Laws.{sending, sent}
use Rattle.cabinet.specs.Models.{refused as refusedBy, stepped}
use Rattle.cabinet.specs.Reactions.{reaction}
use Rattle.cabinet.specs.Tables.{View, blank, answer, after, answer_at, after_at}
use Rattle.cabinet.specs.declared.event.Event.{Event}
use Rattle.cabinet.specs.declared.event.Reaction.{Reaction}
use Rattle.promise.specs.Banks.{Transport, Bank as Model}
use Rattle.promise.specs.Events.{Posted, all, then, refused, no_lane, Happens}
use Rattle.promise.specs.Events as events
use Rattle.tree.specs.Trees.{lane_from}
use Rattle.bank.specs.Parts.{SendsTo}

module _ {P : Type 0} (T : Transport P) (ps : List CabinetNo) (x : ℕ) where
  -- one message, on a lane
  on_that_lane : (v : CabinetNo) (m : Message) (l : ℕ) (p q : P) (r : Result (Unit {0}) Refusal) → lane_from ps x v.0 ≡ Some l → T.puts p l m r q
      → Posted T ps x p ((v, m) ∷ []) r q
  on_that_lane v m l p q (Ok tt) at put = then at put all
  on_that_lane v m l p q (Err why) at put = refused at put

  by_lane : (v : CabinetNo) (m : Message) (p q : P) (r : Result (Unit {0}) Refusal) → SendsTo T ps x (Some v) m p r q → (o : Option ℕ)
      → lane_from ps x v.0 ≡ o → Posted T ps x p ((v, m) ∷ []) r q
  by_lane v m p q r s (Some l) at = on_that_lane v m l p q r at (s.lane v l refl at)
  by_lane v m p q r s None at =
      let h = s.no_lane v refl at in
      subst (λ a. Posted T ps x p ((v, m) ∷ []) a q) (sym h.0) (subst (Posted T ps x p ((v, m) ∷ []) _) (sym h.1) (no_lane at))

  one_posted : (to : Option CabinetNo) (m : Message) (p q : P) (r : Result (Unit {0}) Refusal) → SendsTo T ps x to m p r q
      → Posted T ps x p (sending m to) r q
  one_posted None m p q r s =
      let h = s.nobody refl in subst (λ a. Posted T ps x p [] a q) (sym h.0) (subst (Posted T ps x p [] (Ok tt)) (sym h.1) all)
  one_posted (Some v) m p q r s = by_lane v m p q r s (lane_from ps x v.0) refl

  -- first some messages, and then others
  posted_on : {p q s : P} {first more : List (CabinetNo × Message)} {a r : Result (Unit {0}) Refusal} → Posted T ps x p first a q → a ≡ Ok tt
      → Posted T ps x q more r s → Posted T ps x p (first ++ more) r s
  posted_on all e h = h
  posted_on (then at put rest) e h = then at put (posted_on rest e h)
  posted_on (refused at put) e h = absurd (grind arith)
  posted_on (no_lane at) e h = absurd (grind arith)

  -- after a refusal nothing more is put
  posted_up_to : {p q : P} {first : List (CabinetNo × Message)} {r : Result (Unit {0}) Refusal} {why : Refusal} (more : List (CabinetNo × Message))
      → Posted T ps x p first r q → r ≡ Err why → Posted T ps x p (first ++ more) r q
  posted_up_to more all e = absurd (grind arith)
  posted_up_to more (then at put rest) e = then at put (posted_up_to more rest e)
  posted_up_to more (refused at put) e = refused at put
  posted_up_to more (no_lane at) e = no_lane at

  module _ (a : Reaction) (p q : P) where
    pub first_stopped : (why : Refusal) → SendsTo T ps x a.privilege PRIVILEGE p (Err why) q → Posted T ps x p (sent a) (Err why) q
    first_stopped why s = posted_up_to (sending REQUEST a.request) (one_posted a.privilege PRIVILEGE p q (Err why) s) refl

    pub both_posted : (s : P) (r : Result (Unit {0}) Refusal) → SendsTo T ps x a.privilege PRIVILEGE p (Ok tt) q
        → SendsTo T ps x a.request REQUEST q r s → Posted T ps x p (sent a) r s
    both_posted s r h k = posted_on (one_posted a.privilege PRIVILEGE p q (Ok tt) h) refl (one_posted a.request REQUEST q s r k)

-- a cabinet that refuses an event stays as it is
same_view : (v : View) (e : Event) (why : Refusal) (o : Option Refusal) → refusedBy (near_by v.members) v.model e ≡ o → answer v e ≡ Err why → after v e ≡ v
same_view v e why None is a =
    let b : answer v e ≡ Ok _ = ap (λ q. elim q [ None ↦ Ok (reaction v.model e) | Some w ↦ Err w ]) is in let c = sym b ∙ a in absurd (grind arith)
same_view v e why (Some w) is a =
    ap (λ q. record { members = v.members; model = elim q [ None ↦ stepped v.model e | Some z ↦ v.model ] }) is

same_views : (vs : List View) (k : ℕ) (e : Event) (why : Refusal) (t : Bool)
    → cond t (answer (get_or vs k blank) e) (Err NoSuchCabinet) ≡ Err why → cond t (set vs k (after (get_or vs k blank) e)) vs ≡ vs
same_views vs k e why true a = ap (set vs k) (same_view (get_or vs k blank) e why _ refl a) ∙ set-get_or vs k blank
same_views vs k e why false a = refl

module _ {P : Type 0} (T : Transport P) (b : Model P) (x : ℕ) (e : Event) where
  -- the bank with these cabinets and this post
  abbrev now_with : List View → P → Model P
  now_with vs p = record { parents = b.parents; views = vs; waits = b.waits; post = p }

  pub event_refused : (why : Refusal) (vs : List View) → Err why ≡ answer_at b.views x e → vs ≡ after_at b.views x e
      → Happens T b x e (Err why) (now_with vs b.post)
  event_refused why vs a is =
      subst (λ w. Happens T b x e (Err why) (now_with w b.post)) (sym (is ∙ same_views b.views x e why (ltb x 16) (sym a))) (events.refused (sym a))

  pub event_posted : (a : Reaction) (vs : List View) (r : Result (Unit {0}) Refusal) (p : P) → Ok a ≡ answer_at b.views x e → vs ≡ after_at b.views x e
      → Posted T b.parents x b.post (sent a) r p → Happens T b x e (elim r [ Ok u ↦ Ok a | Err why ↦ Err why ]) (now_with vs p)
  event_posted a vs (Ok tt) p is after_is posted = subst (λ w. Happens T b x e (Ok a) (now_with w p)) (sym after_is) (events.done (sym is) posted)
  event_posted a vs (Err why) p is after_is posted = subst (λ w. Happens T b x e (Err why) (now_with w p)) (sym after_is) (events.stopped (sym is) posted)
