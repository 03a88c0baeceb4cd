-- Nobody waits longer than the limit, given a measure of what a cabinet that waits still owes. The stays are read off the record.
use Rattle.std.proofs.Common.{◌≡◌, ℕ, ◌+◌, ◌<◌, ◌≤◌, Bool, true, false, cond, ◌⊎◌, List, [], ◌∷◌, ◌++◌, length, Ok, sym, refl, ap, ◌∙◌, subst, inl, inr, ⊎_elim, arith}
use Rattle.std.proofs.lemmas.Bool.{cases_Bool, cond-true, cond-false}
use Rattle.post.specs.Posts.{PostModel}
use Rattle.promise.proofs.Entries.{record_good, step_good}
use Rattle.promise.proofs.Goings.{In, step_on, waits_out}
use Rattle.promise.proofs.Good.{Good}
use Rattle.promise.proofs.Measures.{Measure, Counts, Alike, Waits}
use Rattle.promise.specs.Banks.{Bank, any_post}
use Rattle.promise.specs.OnSweeps.{GoesInOnASweep, NobodyWaitsForMoreSweeps}
use Rattle.promise.specs.Promise.{Kept, NobodyWaitsLonger, limit_at}
use Rattle.promise.specs.Records.{Entry, want, Step, begun, next, GoesIn, NoLeave, NoStayOver, wanted, is_sweep, inside_after, sweeps_in, model_at}

abbrev E : Type 0
E = Entry PostModel

good_at : (x : E) (xs : List E) → Kept (x ∷ xs) → Good x.after
good_at x xs kept = (record_good kept x xs refl).0

-- an entry that is not the first is one step from the entry before it
linked : {x y : E} {ys : List E} → Kept (x ∷ (y ∷ ys)) → Kept (y ∷ ys) × Step any_post y.after x.call x.answer x.after
linked (next before s) = (before, s)

first_plants : {x : E} → Kept (x ∷ []) → (n : ℕ) → x.call ≡ want n → ⊥
first_plants (begun new s) n w = absurd (grind arith)

-- the entries since cabinet k went in, and how many of them are sweeps
record Stay (since : ℕ → ℕ) (es : List E) (k : ℕ) : Type 0 where
  stay : List E
  entry : E
  old : List E
  parts : es ≡ stay ++ (entry ∷ old)
  goes_in : GoesIn k entry old
  no_leave : NoLeave k stay
  count : since k ≡ sweeps_in stay

-- since tells of each cabinet that is in how many sweeps it has stayed
abbrev Tells : (ℕ → ℕ) → List E → Type 0
Tells since es = (k : ℕ) → inside_after es k ≡ true → Stay since es k

tells_on : (since then : ℕ → ℕ) (x y : E) (ys : List E) → Kept (x ∷ (y ∷ ys)) → Counts y.after since x.call x.after then
    → Tells since (y ∷ ys) → Tells then (x ∷ (y ∷ ys))
tells_on since then x y ys kept c tells k i =
    ⊎_elim
    (λ (j : In (model_at y.after k)).
    let s = tells k j in
    let on = step_on y.after (good_at y ys (linked kept).0) (linked kept).1 in
    record {
      stay = x ∷ s.stay;
      entry = s.entry;
      old = s.old;
      parts = ap (λ l. x ∷ l) s.parts;
      goes_in = s.goes_in;
      no_leave = (λ call answer. let z = sym (on.leaves k call answer) ∙ i in absurd (grind arith), s.no_leave);
      count = omega (arith, c.kept k j i, s.count);
    })
    (λ (j : (model_at y.after k).inside ≡ false).
    record {
      stay = [];
      entry = x;
      old = y ∷ ys;
      parts = refl;
      goes_in = record { before = j; after = i };
      no_leave = tt;
      count = c.fresh k j i;
    })
    (cases_Bool (model_at y.after k).inside)

-- every record can be told so
told : {es : List E} → Kept es → (since : ℕ → ℕ) × Tells since es
told (begun new s) = (
  λ k. 0,
  λ k i. record { stay = []; entry = _; old = []; parts = refl; goes_in = record { before = refl; after = i }; no_leave = tt; count = refl },
)
told (next {e = y} {es = ys} {k = k} before s) =
    let t = told before in (
      λ x. cond (model_at y.after x).inside (t.0 x + cond (is_sweep k) 1 0) 0,
      tells_on t.0 _ _ y ys (next before s) (record { kept = λ x i j. cond-true _ _ _ i; fresh = λ x i j. cond-false _ _ _ i }) t.1,
    )

-- a sweep finds nobody who has stayed for S sweeps
may_stay : (S : ℕ) (since : ℕ → ℕ) (x : E) (es : List E) → NoStayOver S (x ∷ es) → Tells since es → (k : ℕ) → is_sweep x.call ≡ true → inside_after es k ≡ true
    → since k + 1 ≤ S
may_stay S since x es short tells k is i =
    let s = tells k i in
    let most =
    short k [] (x ∷ s.stay) s.old s.entry (ap (λ l. x ∷ l) s.parts) s.goes_in
    (λ call answer. let z = sym is ∙ ap is_sweep call in absurd (grind arith), s.no_leave)
    in
    omega (arith, s.count, most, cond-true {A = ℕ} (is_sweep x.call) 1 0 is)

one_at_most : (t : Bool) → cond {A = ℕ} t 1 0 ≤ 1
one_at_most true = omega arith
one_at_most false = omega arith

-- what is known of a record is known of its older part
kept_older : (x : E) (new : List E) (e : E) (old : List E) → Kept (x ∷ (new ++ (e ∷ old))) → Kept (new ++ (e ∷ old))
kept_older x [] e old kept = (linked kept).0
kept_older x (y ∷ new) e old kept = (linked kept).0

kept_from : (new : List E) (e : E) (old : List E) → Kept (new ++ (e ∷ old)) → Kept (e ∷ old)
kept_from [] e old kept = kept
kept_from (x ∷ new) e old kept = kept_from new e old (kept_older x new e old kept)

short_older : (S : ℕ) (x : E) (es : List E) → NoStayOver S (x ∷ es) → NoStayOver S es
short_older S x es short k later stay old g is = short k (x ∷ later) stay old g (ap (λ l. x ∷ l) is)

-- from the want e of cabinet n on, which waits then
module _ (S n : ℕ) (e : E) (old : List E) (m : Measure S n e.after) where
  abbrev L : ℕ
  L = limit_at e.after S

  -- it still waits after the entries new, and owes so much less
  record Still (new : List E) : Type 0 where
    last : E
    earlier : List E
    is : new ++ (e ∷ old) ≡ last ∷ earlier
    alike : Alike e.after last.after
    waits : Waits last.after n
    since : ℕ → ℕ
    tells : Tells since (last ∷ earlier)
    owing : m.owes last.after since + sweeps_in new ≤ L

  module _ (x : E) (new : List E) (s : Still new) (kept : Kept (x ∷ (s.last ∷ s.earlier))) where
    good : Good s.last.after
    good = good_at s.last s.earlier (linked kept).0

    -- it goes in on the next entry
    enters : In (model_at x.after n) → GoesInOnASweep n L (x ∷ new) (e ∷ old)
    enters i =
        record {
          within =
              record {
                later = [];
                entry = x;
                earlier = new;
                parts = refl;
                soon = omega (arith, s.owing, m.some s.last.after s.since good s.alike s.waits, one_at_most (is_sweep x.call));
                goes_in = record { before = ap (λ l. inside_after l n) s.is ∙ waits_out s.last.after good n s.waits; after = i };
              };
          sweep = (step_on s.last.after good (linked kept).1).enters n s.waits i;
        }

    -- it goes on waiting
    waits_on : NoStayOver S (x ∷ (s.last ∷ s.earlier)) → Waits x.after n → Still (x ∷ new)
    waits_on short w =
        let step = (linked kept).1 in
        let a = (step_good s.last.after good step).0 in
        let moved =
        m.moves s.last.after x.after s.since x.call x.answer good s.alike step s.waits w
        (may_stay S s.since x (s.last ∷ s.earlier) short s.tells)
        in
        record {
          last = x;
          earlier = s.last ∷ s.earlier;
          is = ap (λ l. x ∷ l) s.is;
          alike = record { parents = a.parents ∙ s.alike.parents; patience = a.patience ∙ s.alike.patience };
          waits = w;
          since = moved.then;
          tells = tells_on s.since moved.then x s.last s.earlier kept moved.counts s.tells;
          owing = omega (arith, s.owing, moved.less);
        }

  one_more : (x : E) (new : List E) → Kept (x ∷ (new ++ (e ∷ old))) → NoStayOver S (x ∷ (new ++ (e ∷ old))) → Still new
      → GoesInOnASweep n L (x ∷ new) (e ∷ old) ⊎ Still (x ∷ new)
  one_more x new kept short s =
      let k : Kept (x ∷ (s.last ∷ s.earlier)) = subst (λ l. Kept (x ∷ l)) s.is kept in
      ⊎_elim (λ (w : Waits x.after n). inr (waits_on x new s k (subst (λ l. NoStayOver S (x ∷ l)) s.is short) w))
      (λ (i : In (model_at x.after n)). inl (enters x new s k i)) ((step_on s.last.after (good x new s k) (linked k).1).waits n s.waits)

  later_in : (x : E) (new : List E) → GoesInOnASweep n L new (e ∷ old) → GoesInOnASweep n L (x ∷ new) (e ∷ old)
  later_in x new g =
      let w = g.within in
      record {
        within =
            record { later = x ∷ w.later; entry = w.entry; earlier = w.earlier; parts = ap (λ l. x ∷ l) w.parts; soon = w.soon; goes_in = w.goes_in };
        sweep = g.sweep;
      }

  goes_on : (new : List E) → Kept (new ++ (e ∷ old)) → NoStayOver S (new ++ (e ∷ old)) → Waits e.after n → GoesInOnASweep n L new (e ∷ old) ⊎ Still new
  goes_on [] kept short w =
      let t = told kept in
      inr
      (record {
        last = e;
        earlier = old;
        is = refl;
        alike = record { parents = refl; patience = refl };
        waits = w;
        since = t.0;
        tells = t.1;
        owing = omega (arith, m.below t.0);
      })
  goes_on (x ∷ new) kept short w =
      ⊎_elim (λ g. inl (later_in x new g)) (one_more x new kept short) (goes_on new (kept_older x new e old kept) (short_older S x (new ++ (e ∷ old)) short) w)

  -- by the limit it owes nothing, so it does not wait
  in_time : (new : List E) → Kept (new ++ (e ∷ old)) → NoStayOver S (new ++ (e ∷ old)) → Waits e.after n → L ≤ sweeps_in new → GoesInOnASweep n L new (e ∷ old)
  in_time new kept short w enough =
      ⊎_elim (λ g. g)
      (λ (s : Still new).
      let g : Good s.last.after = good_at s.last s.earlier (subst Kept s.is kept) in
      absurd (omega (arith, s.owing, m.some s.last.after s.since g s.alike s.waits))) (goes_on new kept short w)

-- the entry of a done want
wants_at : (n : ℕ) (entered : Bool) (e : E) (old : List E) → Kept (e ∷ old) → e.call ≡ want n → e.answer ≡ Ok (wanted entered)
    → (n < length e.after.parents) × (inside_after old n ≡ false) × (Waits e.after n ⊎ In (model_at e.after n))
wants_at n entered e [] kept call answer = absurd (first_plants kept n call)
wants_at n entered e (y ∷ ys) kept call answer =
    let g = good_at y ys (linked kept).0 in
    let o = (step_on y.after g (linked kept).1).wants n entered call answer in
    (omega (arith, o.0, ap length (step_good y.after g (linked kept).1).0.parents), o.1, o.2)

module _ (measure : (S w : ℕ) (a : Bank PostModel) → Good a → w < length a.parents → Measure S w a) where
  pub nobody_waits_for_more_sweeps : NobodyWaitsForMoreSweeps
  nobody_waits_for_more_sweeps S n entered new old e kept short call answer enough =
      let here = kept_from new e old kept in
      let w = wants_at n entered e old here call answer in
      ⊎_elim (λ (i : Waits e.after n). inr (in_time S n e old (measure S n e.after (good_at e old here) w.0) new kept short i enough))
      (λ (i : In (model_at e.after n)). inl (record { before = w.1; after = i })) w.2

  pub nobody_waits_longer : NobodyWaitsLonger
  nobody_waits_longer S n entered new old e kept short call answer enough =
      ⊎_elim (λ g. inl g) (λ (g : GoesInOnASweep n (limit_at e.after S) new (e ∷ old)). inr g.within)
      (nobody_waits_for_more_sweeps S n entered new old e kept short call answer enough)
