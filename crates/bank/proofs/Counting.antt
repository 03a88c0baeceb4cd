-- The wait counts at the start of a sweep, one cabinet after the other.
use Rattle.std.proofs.Common.{◌≡◌, ℕ, zero, suc, ◌+◌, ◌<◌, ◌≤◌, min, cond, List, [], ◌∷◌, map, length, get_or, take, set, sym, refl, ap, ◌∙◌, add-one, arith}
use Rattle.std.proofs.lemmas.List.{get_or-map, length-map, take_all}
use Rattle.cabinet.specs.Models.{waits}
use Rattle.cabinet.specs.Tables.{View, view_of, blank}
use Rattle.cabinet.specs.declared.cabinet.Cabinet.{Cabinet}
use Rattle.promise.specs.Sweeps.{counted}

abbrev pub grown : View → ℕ → ℕ
grown v w = cond (waits v.model) (min (w + 1) 4294967295) w

-- the count of the next cabinet is still as it was
pub counted_ahead : (vs : List View) (ws : List ℕ) (k : ℕ) → get_or (counted (take k vs) ws) k 0 ≡ get_or ws k 0
counted_ahead vs ws zero = refl
counted_ahead [] ws (suc k) = refl
counted_ahead (v ∷ vs) [] (suc k) = refl
counted_ahead (v ∷ vs) (w ∷ ws) (suc k) = counted_ahead vs ws k

pub counted_more : (vs : List View) (ws : List ℕ) (k : ℕ) → k < length vs
    → counted (take (suc k) vs) ws ≡ set (counted (take k vs) ws) k (grown (get_or vs k blank) (get_or ws k 0))
counted_more [] ws k l = absurd (omega arith)
counted_more (v ∷ vs) [] zero l = refl
counted_more (v ∷ vs) (w ∷ ws) zero l = refl
counted_more (v ∷ vs) [] (suc k) l = refl
counted_more (v ∷ vs) (w ∷ ws) (suc k) l = ap {B = List ℕ} (λ t. grown v w ∷ t) (counted_more vs ws k (omega arith))

-- the count of cabinet k, which is x, is written
pub counted_next : (cs : List Cabinet) (counts ws : List ℕ) (k n : ℕ) (x : Cabinet) → k < length cs
    → counts ≡ counted (take k (map view_of cs)) ws → x ≡ get_or cs k x → n ≡ grown (view_of x) (get_or counts k 0)
    → set counts k n ≡ counted (take (k + 1) (map view_of cs)) ws
counted_next cs counts ws k n x within so_far is_x is-n =
    let view : get_or (map view_of cs) k blank ≡ view_of x = get_or-map view_of cs k x blank within ∙ ap view_of (sym is_x) in
    let count : get_or counts k 0 ≡ get_or ws k 0 = ap (λ l. get_or l k 0) so_far ∙ counted_ahead (map view_of cs) ws k in
    let new : n ≡ grown (get_or (map view_of cs) k blank) (get_or ws k 0) = is-n ∙ ap (grown (view_of x)) count ∙ ap (λ v. grown v (get_or ws k 0)) (sym view) in
    let more = counted_more (map view_of cs) ws k (omega (arith, length-map cs view_of)) in
    ap (λ l. set l k n) so_far ∙ ap (set (counted (take k (map view_of cs)) ws) k) new ∙ sym more
    ∙ ap (λ j. counted (take j (map view_of cs)) ws) (sym (add-one k))

pub counted_all : (cs : List Cabinet) (counts ws : List ℕ) (k : ℕ) → length cs ≤ k → counts ≡ counted (take k (map view_of cs)) ws
    → counts ≡ counted (map view_of cs) ws
counted_all cs counts ws k far so_far = so_far ∙ ap (λ l. counted l ws) (take_all k (map view_of cs) (omega (arith, length-map cs view_of)))
