-- What an edge costs a cabinet that waits. Seen from the end that is nearer to it, p, which has promised the privilege on, the edge to
-- the farther end c costs at most so many sweeps until the privilege has come back over it for good.
use Rattle.std.proofs.Common.{◌≡◌, ℕ, ◌+◌, ◌*◌, ◌<◌, ◌≤◌, Bool, true, false, cond, ◌⊎◌, List, [], ◌∷◌, ◌++◌, sym, refl, ap, ◌∙◌, subst, inl, inr, ⊎_elim, arith}
use Rattle.cable.specs.declared.message.Message.{Message}
use Rattle.cable.specs.declared.message.Message.TheVariants.{Request, Privilege}
use Rattle.promise.proofs.Edges.{Aim, away, quiet, calling, EdgeView, EdgeOk}

-- what a price is made of: the edge seen from p, whether c is queued at p ahead of the one that p has promised, how long p may yet stand
-- behind a stay at c, and the allowances of the two lanes
pub record Item : Type 0 where
  pub view : EdgeView
  pub ahead : Bool
  pub stay : ℕ
  pub a_out : ℕ
  pub a_back : ℕ

pub data First : Type 0 where
  nothing : First
  request : First
  privilege : First

abbrev pub first : List Message → First
first [] = nothing
first (Request ∷ ms) = request
first (Privilege ∷ ms) = privilege

-- what is the matter with an edge: the privilege comes back, goes out, or is asked for; it is promised at c, or p has yet to ask; c comes
-- first at p; or it does not matter any more
pub data Row : Type 0 where
  comes : Row
  goes : Row
  sought : Row
  promised : Row
  unasked : Row
  preferred : Row
  over : Row

abbrev resting : Aim → Bool → Row
resting away ahead = cond ahead preferred over
resting quiet ahead = unasked
resting calling ahead = promised

abbrev outward : First → Aim → Bool → Row
outward privilege near ahead = goes
outward request near ahead = sought
outward nothing near ahead = resting near ahead

abbrev row_by : First → First → Aim → Bool → Row
row_by privilege out near ahead = comes
row_by request out near ahead = outward out near ahead
row_by nothing out near ahead = outward out near ahead

abbrev pub row : Item → Row
row i = row_by (first i.view.back) (first i.view.out) i.view.near i.ahead

-- 0 done, 1 pledged, 2 open
abbrev pub status_of : Row → ℕ
status_of comes = 0
status_of goes = 2
status_of sought = 2
status_of promised = 1
status_of unasked = 2
status_of preferred = 2
status_of over = 0

module _ (G S : ℕ) where
  abbrev pub full : ℕ
  full = 3 * G + S

  abbrev pub cost : Row → Item → ℕ
  cost comes i = i.a_back + 1
  cost goes i = i.a_out + 1 + 2 * G + S
  cost sought i = i.a_out + 1 + G + S
  cost promised i = G + i.stay
  cost unasked i = 2 * G + S
  cost preferred i = full
  cost over i = 0

  abbrev pub price : Item → ℕ
  price i = cost (row i) i

  pub row_below : (r : Row) (i : Item) → i.a_out < G → i.a_back < G → i.stay ≤ S → cost r i ≤ full
  row_below comes i o b s = omega arith
  row_below goes i o b s = omega arith
  row_below sought i o b s = omega arith
  row_below promised i o b s = omega arith
  row_below unasked i o b s = omega arith
  row_below preferred i o b s = omega arith
  row_below over i o b s = omega arith

-- which row it is, by what the edge looks like
pub row_comes : (i : Item) (ms : List Message) → i.view.back ≡ Privilege ∷ ms → row i ≡ comes
row_comes i ms e = ap (λ b. row_by (first b) (first i.view.out) i.view.near i.ahead) e

module _ (i : Item) (ok : EdgeOk i.view) where
  pub row_goes : (ms : List Message) → i.view.out ≡ Privilege ∷ ms → row i ≡ goes
  row_goes ms e = let b : i.view.back ≡ [] = grind arith in ap (λ l. row_by (first l) (first i.view.out) i.view.near i.ahead) b ∙ ap (λ l. outward (first l) i.view.near i.ahead) e

  pub row_sought : (ms : List Message) → i.view.out ≡ Request ∷ ms → row i ≡ sought
  row_sought ms e = let b : i.view.back ≡ [] = grind arith in ap (λ l. row_by (first l) (first i.view.out) i.view.near i.ahead) b ∙ ap (λ l. outward (first l) i.view.near i.ahead) e

-- p has asked, and nothing is under way
pub row_waits : (i : Item) → i.view.near ≡ calling → i.view.out ≡ [] → i.view.back ≡ [] → row i ≡ promised
row_waits i n o b = ap (λ l. row_by (first l) (first i.view.out) i.view.near i.ahead) b ∙ ap (λ l. outward (first l) i.view.near i.ahead) o ∙ ap (λ a. resting a i.ahead) n

-- the price falls, or stays, and so does the status
pub record Falls (G S : ℕ) (i j : Item) : Type 0 where
  pub status : status_of (row j) ≤ status_of (row i)
  pub price : price G S j ≤ price G S i

-- and it falls for good
pub record Drops (G S : ℕ) (i j : Item) : Type 0 where
  pub status : status_of (row j) ≤ status_of (row i)
  pub price : price G S j + 1 ≤ price G S i

pub falls_by : (G S : ℕ) (i j : Item) → Drops G S i j → Falls G S i j
falls_by G S i j d = record { status = d.status; price = omega (arith, d.price) }

row_of : (i : Item) (b o : First) (n : Aim) (a : Bool) → first i.view.back ≡ b → first i.view.out ≡ o → i.view.near ≡ n → i.ahead ≡ a → row i ≡ row_by b o n a
row_of i b o n a e f g h = cc

first_nothing : (l : List Message) → first l ≡ nothing → l ≡ []
first_nothing [] e = refl
first_nothing (Request ∷ l) e = absurd (grind arith)
first_nothing (Privilege ∷ l) e = absurd (grind arith)

first_request : (l : List Message) → first l ≡ request → (ms : List Message) × (l ≡ Request ∷ ms)
first_request [] e = absurd (grind arith)
first_request (Request ∷ l) e = (l, refl)
first_request (Privilege ∷ l) e = absurd (grind arith)

some_list : (l : List Message) (f : First) → first l ≡ f → (f ≡ nothing → ⊥) → l ≡ [] → ⊥
some_list l f e d n = d (sym e ∙ ap first n)

-- the edge itself did not change: no stay rose behind which p stands, nor an allowance of a lane with something on it
module _ (G S : ℕ) (i j : Item) (ok : EdgeOk i.view) (view : j.view ≡ i.view) (ahead : j.ahead ≡ i.ahead)
    (stay : i.view.there ≡ 1 → j.stay ≤ i.stay) (out : (i.view.out ≡ [] → ⊥) → j.a_out ≤ i.a_out)
    (back : (i.view.back ≡ [] → ⊥) → j.a_back ≤ i.a_back) where
  same_row : row j ≡ row i
  same_row = let a = ahead in let v = view in cc

  out_falls : (o : First) → first i.view.out ≡ o → (o ≡ nothing → ⊥) → j.a_out ≤ i.a_out
  out_falls o e d = out (some_list i.view.out o e d)

  outward_falls : (o : First) (n : Aim) (a : Bool) → first i.view.out ≡ o → (o ≡ nothing → n ≡ calling → i.view.there ≡ 1)
      → cost G S (outward o n a) j ≤ cost G S (outward o n a) i
  outward_falls privilege n a e w = omega (arith, out_falls privilege e (λ z. absurd (grind arith)))
  outward_falls request n a e w = omega (arith, out_falls request e (λ z. absurd (grind arith)))
  outward_falls nothing away true e w = omega arith
  outward_falls nothing away false e w = omega arith
  outward_falls nothing quiet a e w = omega arith
  outward_falls nothing calling a e w = omega (arith, stay (w refl refl))

  waits_there : (o : First) → first i.view.out ≡ o → o ≡ nothing → i.view.near ≡ calling → (i.view.back ≡ []) ⊎ ((ms : List Message) × (i.view.back ≡ Request ∷ ms))
      → i.view.there ≡ 1
  waits_there o e z n (inl k) = let l : i.view.out ≡ [] = first_nothing i.view.out (e ∙ z) in grind arith
  waits_there o e z n (inr (ms, k)) = absurd (grind arith)

  cost_falls : (b o : First) (n : Aim) (a : Bool) → first i.view.back ≡ b → first i.view.out ≡ o → i.view.near ≡ n
      → cost G S (row_by b o n a) j ≤ cost G S (row_by b o n a) i
  cost_falls privilege o n a e f g = omega (arith, back (some_list i.view.back privilege e (λ z. absurd (grind arith))))
  cost_falls request o n a e f g = outward_falls o n a f (λ z c. waits_there o f z (g ∙ c) (inr (first_request i.view.back e)))
  cost_falls nothing o n a e f g = outward_falls o n a f (λ z c. waits_there o f z (g ∙ c) (inl (first_nothing i.view.back e)))

  pub falls_same : Falls G S i j
  falls_same =
      record {
        status = omega (arith, ap status_of same_row);
        price =
            subst (λ r. cost G S r j ≤ price G S i) (sym same_row)
            (cost_falls (first i.view.back) (first i.view.out) i.view.near i.ahead refl refl refl);
      }

-- where the promise stands at c, p is queued there
pub row_promised : (i : Item) → EdgeOk i.view → row i ≡ promised → i.view.there ≡ 1
row_promised i ok e = by_first (first i.view.back) (first i.view.out) i.view.near i.ahead refl refl refl e
  where
    by_first : (b o : First) (n : Aim) (a : Bool) → first i.view.back ≡ b → first i.view.out ≡ o → i.view.near ≡ n → row_by b o n a ≡ promised → i.view.there ≡ 1
    by_first privilege o n a eb eo en z = absurd (grind arith)
    by_first request privilege n a eb eo en z = absurd (grind arith)
    by_first request request n a eb eo en z = absurd (grind arith)
    by_first request nothing away true eb eo en z = absurd (grind arith)
    by_first request nothing away false eb eo en z = absurd (grind arith)
    by_first request nothing quiet a eb eo en z = absurd (grind arith)
    by_first request nothing calling a eb eo en z = let q = first_request i.view.back eb in let k = q.1 in absurd (grind arith)
    by_first nothing privilege n a eb eo en z = absurd (grind arith)
    by_first nothing request n a eb eo en z = absurd (grind arith)
    by_first nothing nothing away true eb eo en z = absurd (grind arith)
    by_first nothing nothing away false eb eo en z = absurd (grind arith)
    by_first nothing nothing quiet a eb eo en z = absurd (grind arith)
    by_first nothing nothing calling a eb eo en z =
        let k : i.view.back ≡ [] = first_nothing i.view.back eb in let l : i.view.out ≡ [] = first_nothing i.view.out eo in grind arith

-- from one row to another
module _ (G S : ℕ) (i j : Item) where
  pub drops_rows : (r s : Row) → row i ≡ r → row j ≡ s → status_of s ≤ status_of r → cost G S s j + 1 ≤ cost G S r i → Drops G S i j
  drops_rows r s e f a b = record { status = omega (arith, a, ap status_of e, ap status_of f); price = omega (arith, b, ap (λ x. cost G S x i) e, ap (λ x. cost G S x j) f) }

  pub falls_rows : (r s : Row) → row i ≡ r → row j ≡ s → status_of s ≤ status_of r → cost G S s j ≤ cost G S r i → Falls G S i j
  falls_rows r s e f a b = record { status = omega (arith, a, ap status_of e, ap status_of f); price = omega (arith, b, ap (λ x. cost G S x i) e, ap (λ x. cost G S x j) f) }

  -- an edge that does not matter any more
  pub falls_over : row j ≡ over → Falls G S i j
  falls_over e = record { status = omega (arith, ap status_of e); price = omega (arith, ap (λ x. cost G S x j) e) }

-- the steps of an event at either end, from i to j
module _ (G S : ℕ) (i j : Item) (ok : EdgeOk i.view) where
  -- a request of c arrives at p behind the one that p has promised
  pub near_request : (rest : List Message) → i.view.back ≡ Request ∷ rest → j.view.near ≡ i.view.near → j.view.out ≡ i.view.out
      → j.view.back ≡ rest → j.ahead ≡ false → Falls G S i j
  near_request rest e jn jo jb ja =
      let n : i.view.near ≡ away = grind arith in
      let l : i.view.out ≡ [] = grind arith in
      let r : rest ≡ [] = grind arith in
      falls_over G S i j (row_of j nothing nothing away false (ap first (jb ∙ r)) (ap first (jo ∙ l)) (jn ∙ n) ja)

  -- the privilege arrives at p from c, which is not queued there
  pub near_privilege : (rest : List Message) → i.view.back ≡ Privilege ∷ rest → j.view.near ≡ away → j.view.out ≡ i.view.out
      → j.view.back ≡ rest → j.ahead ≡ false → Drops G S i j
  near_privilege rest e jn jo jb ja =
      let l : i.view.out ≡ [] = grind arith in
      let r : (rest ≡ []) ⊎ (rest ≡ Request ∷ []) = grind arith in
      drops_rows G S i j comes over (row_comes i rest e)
      (⊎_elim (λ (z : rest ≡ []). row_of j nothing nothing away false (ap first (jb ∙ z)) (ap first (jo ∙ l)) jn ja)
      (λ (z : rest ≡ Request ∷ []). row_of j request nothing away false (ap first (jb ∙ z)) (ap first (jo ∙ l)) jn ja) r)
      (omega arith) (omega arith)

  -- c is served at p before the one that p has promised
  pub near_serves : i.view.near ≡ away → i.view.here ≡ 1 → i.ahead ≡ true → j.view.near ≡ quiet → j.view.out ≡ Privilege ∷ []
      → j.view.back ≡ i.view.back → j.a_out < G → Falls G S i j
  near_serves n h f jn jo jb small =
      let l : i.view.out ≡ [] = grind arith in
      let k : i.view.back ≡ [] = grind arith in
      falls_rows G S i j preferred goes (row_of i nothing nothing away true (ap first k) (ap first l) n f)
      (row_of j nothing privilege quiet j.ahead (ap first (jb ∙ k)) (ap first jo) jn refl) (omega arith) (omega arith)

  -- p asks c
  pub near_asks : i.view.near ≡ quiet → j.view.near ≡ calling → j.view.out ≡ i.view.out ++ Request ∷ [] → j.view.back ≡ i.view.back
      → (i.view.out ≡ [] → j.a_out < G) → ((i.view.out ≡ [] → ⊥) → j.a_out ≤ i.a_out) → Falls G S i j
  near_asks n jn jo jb small behind =
      let k : i.view.back ≡ [] = grind arith in
      ⊎_elim
      (λ (l : i.view.out ≡ []). falls_rows G S i j unasked sought (row_of i nothing nothing quiet i.ahead (ap first k) (ap first l) n refl)
      (row_of j nothing request calling j.ahead (ap first (jb ∙ k)) (ap first (jo ∙ ap (λ w. w ++ Request ∷ []) l)) jn refl) (omega arith) (omega (arith, small l)))
      (λ (l : i.view.out ≡ Privilege ∷ []). falls_rows G S i j goes goes (row_of i nothing privilege quiet i.ahead (ap first k) (ap first l) n refl)
      (row_of j nothing privilege calling j.ahead (ap first (jb ∙ k)) (ap first (jo ∙ ap (λ w. w ++ Request ∷ []) l)) jn refl) (omega arith)
      (omega (arith, behind (λ z. let y = sym z ∙ l in absurd (grind arith)))))
      (let c : (i.view.out ≡ []) ⊎ (i.view.out ≡ Privilege ∷ []) = grind arith in c)

  -- the request of p arrives at c
  pub far_request : (rest : List Message) → i.view.out ≡ Request ∷ rest → j.view.near ≡ i.view.near → j.view.out ≡ rest
      → j.view.back ≡ i.view.back → j.stay ≤ S → Drops G S i j
  far_request rest e jn jo jb small =
      let n : i.view.near ≡ calling = grind arith in
      let k : i.view.back ≡ [] = grind arith in
      let r : rest ≡ [] = grind arith in
      drops_rows G S i j sought promised (row_of i nothing request calling i.ahead (ap first k) (ap first e) n refl)
      (row_of j nothing nothing calling j.ahead (ap first (jb ∙ k)) (ap first (jo ∙ r)) (jn ∙ n) refl) (omega arith) (omega arith)

  -- the privilege arrives at c from p
  pub far_privilege : (rest : List Message) → i.view.out ≡ Privilege ∷ rest → j.view.near ≡ i.view.near → j.view.out ≡ rest
      → j.view.back ≡ i.view.back → j.a_out < G → Drops G S i j
  far_privilege rest e jn jo jb small =
      let k : i.view.back ≡ [] = grind arith in
      let was : row i ≡ goes = row_of i nothing privilege i.view.near i.ahead (ap first k) (ap first e) refl refl in
      ⊎_elim
      (λ (z : (rest ≡ []) × (i.view.near ≡ quiet)). drops_rows G S i j goes unasked was
      (row_of j nothing nothing quiet j.ahead (ap first (jb ∙ k)) (ap first (jo ∙ z.0)) (jn ∙ z.1) refl) (omega arith) (omega arith))
      (λ (z : (rest ≡ Request ∷ []) × (i.view.near ≡ calling)). drops_rows G S i j goes sought was
      (row_of j nothing request calling j.ahead (ap first (jb ∙ k)) (ap first (jo ∙ z.0)) (jn ∙ z.1) refl) (omega arith) (omega arith))
      (let c : ((rest ≡ []) × (i.view.near ≡ quiet)) ⊎ ((rest ≡ Request ∷ []) × (i.view.near ≡ calling)) = grind arith in c)

  -- c serves p
  pub far_serves : i.view.far ≡ away → i.view.there ≡ 1 → j.view.back ≡ Privilege ∷ [] → j.a_back < G → Falls G S i j
  far_serves f t jb small =
      let n : i.view.near ≡ calling = grind arith in
      let l : i.view.out ≡ [] = grind arith in
      let k : i.view.back ≡ [] = grind arith in
      falls_rows G S i j promised comes (row_of i nothing nothing calling i.ahead (ap first k) (ap first l) n refl) (row_comes j [] jb) (omega arith)
      (omega arith)

  -- c asks p
  pub far_asks : i.view.far ≡ quiet → j.view.near ≡ i.view.near → j.view.out ≡ i.view.out → j.view.back ≡ i.view.back ++ Request ∷ []
      → j.ahead ≡ i.ahead → ((i.view.back ≡ [] → ⊥) → j.a_back ≤ i.a_back) → Falls G S i j
  far_asks f jn jo jb ja behind =
      ⊎_elim
      (λ (k : (i.view.back ≡ []) × ((i.view.near ≡ away) × (i.view.out ≡ []))).
      by_ahead i.ahead refl k ja)
      (λ (k : i.view.back ≡ Privilege ∷ []). falls_rows G S i j comes comes (row_comes i [] k)
      (row_comes j (Request ∷ []) (jb ∙ ap (λ w. w ++ Request ∷ []) k)) (omega arith)
      (omega (arith, behind (λ z. let y = sym z ∙ k in absurd (grind arith)))))
      (let c : ((i.view.back ≡ []) × ((i.view.near ≡ away) × (i.view.out ≡ []))) ⊎ (i.view.back ≡ Privilege ∷ []) = grind arith in c)
    where
      by_ahead : (a : Bool) → i.ahead ≡ a → (i.view.back ≡ []) × ((i.view.near ≡ away) × (i.view.out ≡ [])) → j.ahead ≡ i.ahead → Falls G S i j
      by_ahead true e k same =
          falls_rows G S i j preferred preferred (row_of i nothing nothing away true (ap first k.0) (ap first k.1.1) k.1.0 e)
          (row_of j request nothing away true (ap first (jb ∙ ap (λ w. w ++ Request ∷ []) k.0)) (ap first (jo ∙ k.1.1)) (jn ∙ k.1.0) (same ∙ e))
          (omega arith) (omega arith)
      by_ahead false e k same =
          falls_over G S i j
          (row_of j request nothing away false (ap first (jb ∙ ap (λ w. w ++ Request ∷ []) k.0)) (ap first (jo ∙ k.1.1)) (jn ∙ k.1.0) (same ∙ e))
