use denote.Param.Members.{Mut}
use Rattle.std.proofs.Common.{◌≡◌, ◌≤◌, ℕ, Bool, false, List, rules, eqb, sym, subst, arith}
use Rattle.std.specs.Borrow.{Bor}
use Rattle.std.specs.Fn.{CalledAt}
use Rattle.std.specs.Slice.Iter as slice
use Rattle.std.proofs.lemmas.Iterator.{YieldsList}
use Rattle.std.proofs.lemmas.Iterator.Consumers.{YieldsList-turn, YieldsList-end}
use Rattle.std.proofs.lemmas.Iterator.Splits.{YieldsList-from_slice_split}
use Rattle.std.proofs.lemmas.List.{length_push}
use borrow.Author.Tests.{tests}
use Rattle.text.proofs.Cuts.{fields_split}
use Rattle.text.specs.Fields.{fields}
use Rattle.capture.proofs.Packing.{size, stops, again, finish, size_fields}
use Rattle.capture.proofs.packet.Packet.parse.Goals as goal

-- a line that is cut at its spaces yields its fields
yields : {F : Type 0} {s : _} (g : Mut F (Bor ℕ × Unit {0}) Bool) {f : F} (line : List ℕ) → slice.split_rest s ≡ line → slice.split_done s ≡ false
    → slice.split_callee s ≡ f → ((x : ℕ) (b : Bool) (q : F) → CalledAt g f x b q → (q ≡ f) × (b ≡ eqb x 32))
    → YieldsList (slice.split_steps g) (λ x. x.now) s (fields 32 line)
yields {s = s} g line rest done closure test =
    subst (YieldsList (slice.split_steps g) (λ x. x.now) s) (sym (fields_split 32 line)) (YieldsList-from_slice_split {s = s} g (λ b. eqb b 32) line rest done closure test)

pub loop-field-preserved : goal.loop-field-preserved
loop-field-preserved c =
    let t = YieldsList-turn (yields _ c.args.line.now (cc) (cc) (cc) (λ x b q k. search (rules, tests))) c.loop-field.yielded _ c.loop-field.yielded_by _ _ c.in-Some.field c.in-Some.is c.next.ensures.steps in
    let l : size (fields 32 c.args.line.now) ≤ 81 = omega (arith, size_fields 32 c.args.line.now) in
    let p = again _ _ _ c.loop-field.invariant.2 _ t c.in_ok-b.b (search rules) l _ c.join.ensures.after in
    (search rules, tt, rw length_push p)

pub returns-in_err-b : goal.returns-in_err-b
returns-in_err-b c =
    let t = YieldsList-turn (yields _ c.args.line.now (cc) (cc) (cc) (λ x b q k. search (rules, tests))) c.loop-field.yielded _ c.loop-field.yielded_by _ _ c.in-Some.field c.in-Some.is c.next.ensures.steps in
    let p = stops _ _ _ c.loop-field.invariant.2 _ t (search rules) in
    record { value = search (rules, p) }

pub returns : goal.returns
returns c =
    let t = YieldsList-end (yields _ c.args.line.now (cc) (cc) (cc) (λ x b q k. search (rules, tests))) c.loop-field.yielded _ c.loop-field.yielded_by _ _ c.in-None.is c.next.ensures.steps in
    record { value = finish _ _ _ c.loop-field.invariant.2 t.1 }
