-- A line's bytes, field by field: those that were packed, and those that the other fields will be.
use Rattle.std.proofs.Common.{◌≡◌, ℕ, ◌+◌, ◌*◌, ◌<◌, ◌≤◌, List, [], ◌∷◌, ◌++◌, length, get_or, drop, Some, None, Ok, Err, Result, sym, refl, ap, ◌∙◌, eqb, subst, arith}
use Rattle.std.proofs.lemmas.List.{append_assoc, append-nil, length_push, at_drop_more, at_drop_all}
use Rattle.std.proofs.lemmas.Bool.{cond_both}
use Rattle.std.proofs.lemmas.Bool.Decides.{nat_tests}
use Rattle.cable.specs.Rows.{joined}
use Rattle.cable.specs.declared.refusal.Refusal.{Refusal}
use Rattle.cable.specs.declared.refusal.Refusal.TheVariants.{Malformed}
use Rattle.text.specs.Fields.{fields, longer}
use Rattle.capture.specs.Hexadecimal.{hex_byte}
use Rattle.capture.specs.Packets.{packet, before}

abbrev pub onto : List ℕ → Result (List ℕ) Refusal → Result (List ℕ) Refusal
onto bs (Ok xs) = Ok (bs ++ xs)
onto bs (Err e) = Err e

onto_push : (bs : List ℕ) (b : ℕ) (r : Result (List ℕ) Refusal) → onto (bs ++ b ∷ []) r ≡ onto bs (before (Some b) r)
onto_push bs b (Ok xs) = ap Ok (append_assoc bs (b ∷ []) xs)
onto_push bs b (Err e) = refl

-- the places that fields take in a line, each with the separator behind it
abbrev pub size : List (List ℕ) → ℕ
size [] = 0
size (f ∷ fs) = length f + 1 + size fs

size_longer : (c : ℕ) (fs : List (List ℕ)) → 0 < size fs → size (longer c fs) ≡ 1 + size fs
size_longer c [] h = absurd (omega arith)
size_longer c (f ∷ fs) h = omega arith

pub size_fields : (s : ℕ) (xs : List ℕ) → size (fields s xs) ≡ length xs + 1
size_fields s [] = refl
size_fields s (c ∷ cs) =
    let t = size_fields s cs in
    cond_both (eqb c s) ([] ∷ fields s cs) (longer c (fields s cs)) (λ fs. size fs ≡ length (c ∷ cs) + 1) (λ e. omega arith)
    (λ e. omega (arith, size_longer c (fields s cs) (omega arith)))

two : (f : List ℕ) (b : ℕ) → hex_byte f ≡ Some b → length f ≡ 2
two [] b e = absurd (grind arith)
two (x ∷ []) b e = absurd (grind arith)
two (x ∷ y ∷ []) b e = refl
two (x ∷ y ∷ z ∷ zs) b e = absurd (grind arith)

-- what is kept while n of the fields are packed
pub record Packed (fs : List (List ℕ)) (n : ℕ) (bs : List ℕ) : Type 0 where
  pub whole : onto bs (packet (drop n fs)) ≡ packet fs
  pub count : length bs ≡ n
  pub room : 3 * n + size (drop n fs) ≡ size fs

-- the next field
module _ (fs : List (List ℕ)) (n : ℕ) (bs : List ℕ) (h : Packed fs n bs) (f : List ℕ) (t : (n < length fs) × (f ≡ get_or fs n f)) where
  step : drop n fs ≡ f ∷ drop (n + 1) fs
  step = at_drop_more (λ xs. xs) fs n f t.0 ∙ ap (λ g. g ∷ drop (n + 1) fs) (sym t.1)

  next : onto bs (before (hex_byte f) (packet (drop (n + 1) fs))) ≡ packet fs
  next = ap (λ xs. onto bs (packet xs)) (sym step) ∙ h.whole

  pub stops : hex_byte f ≡ None → Err Malformed ≡ packet fs
  stops e = ap (λ o. onto bs (before o (packet (drop (n + 1) fs)))) (sym e) ∙ next

  few : (b : ℕ) → hex_byte f ≡ Some b → size fs ≤ 81 → length bs < 27
  few b e l = omega (arith, two f b e, h.room, h.count, ap size step)

  one_more : (b : ℕ) → hex_byte f ≡ Some b → Packed fs (n + 1) (bs ++ b ∷ [])
  one_more b e =
      record {
        whole =
            onto_push bs b (packet (drop (n + 1) fs)) ∙ ap (λ o. onto bs (before o (packet (drop (n + 1) fs)))) (sym e) ∙ next;
        count = length_push bs b ∙ ap (λ k. k + 1) h.count;
        room = omega (arith, two f b e, h.room, ap size step);
      }

  pub again : (b : ℕ) → hex_byte f ≡ Some b → size fs ≤ 81 → (cs : List ℕ) → cs ≡ joined bs 27 b → Packed fs (n + 1) cs
  again b e l cs j =
      let k : length bs < 27 = few b e l in
      let w : cs ≡ bs ++ b ∷ [] = grind (arith, nat_tests) in
      subst (Packed fs (n + 1)) (sym w) (one_more b e)

pub finish : (fs : List (List ℕ)) (n : ℕ) (bs : List ℕ) → Packed fs n bs → n ≡ length fs → Ok bs ≡ packet fs
finish fs n bs h e = ap Ok (sym (append-nil bs)) ∙ sym (at_drop_all (λ xs. onto bs (packet xs)) fs n (omega (arith, e))) ∙ h.whole
