-- A send of a kind of wiring that keeps a line for each wire, as one of any wiring.
use Rattle.std.specs.Prelude.{◌≡◌, ℕ, ◌+◌, ◌<◌, ◌≤◌, ◌⊎◌, List, ◌++◌, length, replicate, Result, refl}
use Rattle.std.proofs.Common.{inr, ⊎_elim, sym, ap, ◌∙◌, arith, length-append}
use Rattle.std.proofs.lemmas.List.{length-replicate}
use Rattle.std.proofs.lemmas.Bool.{cases_eq}
use Rattle.cable.specs.declared.refusal.Refusal.{Refusal}
use Rattle.wiring.specs.Wirings.{WiringModel, WiringSame, Loses, Keeps, Sends}
use Rattle.wiring.specs.Lines.{OnlyWire, SendsBy, means_by}

module _ {L : Type 0} (depth misses : ℕ) (flying : L → List (List ℕ)) (spare : L → ℕ) where
  abbrev pub means : (ℕ → L) → WiringModel
  means w = means_by flying depth misses spare w

  -- the frame is lost or kept, as any wiring may have it
  abbrev pub Decides : List ℕ → ℕ → (ℕ → L) → (ℕ → L) → Type 0
  Decides frame wire w v = Loses wire (means w) (means v) ⊎ Keeps wire frame (means w) (means v)

  pub keeps_copies : (frame : List ℕ) (wire : ℕ) (w v : ℕ → L) (copies : ℕ) → 1 ≤ copies → flying (v wire) ≡ flying (w wire) ++ replicate copies frame
      → length (flying (w wire)) + copies ≤ depth → spare (v wire) ≤ misses → Decides frame wire w v
  keeps_copies frame wire w v copies some joins room renewed =
      let grown = ap length joins in
      inr
      (record {
        copies = copies;
        some = some;
        joins = joins;
        within = omega (arith, length-append (flying (w wire)) (replicate copies frame), length-replicate copies frame);
        renewed = renewed;
      })

  same : (w v : ℕ → L) (wire : ℕ) → OnlyWire wire w v → v wire ≡ w wire → WiringSame (means w) (means v)
  same w v wire others here =
      let all : (k : ℕ) → v k ≡ w k = λ k. ⊎_elim (λ (e : k ≡ wire). ap v e ∙ here ∙ ap w (sym e)) (others k) (cases_eq k wire) in
      record { flying = λ k. ap flying (all k); spare = λ k. ap spare (all k) }

  pub send_meant_so : (frame : List ℕ) (sent : L → L) (w v : ℕ → L) (wire : ℕ) (r : Result (Unit {0}) Refusal)
      → (length (flying (w wire)) < depth → v wire ≡ sent (w wire) → Decides frame wire w v)
      → SendsBy flying depth sent w wire r v → Sends (means w) wire frame r (means v)
  send_meant_so frame sent w v wire r decided s =
      record {
        constant = record { misses = refl; depth = refl };
        no_wire = λ h. ((s.no_wire h).0, same w v wire s.others (s.no_wire h).1);
        full = λ h l. ((s.full h l).0, same w v wire s.others (s.full h l).1);
        done =
            λ h l. (
              (s.done h l).0,
              decided l (s.done h l).1,
              record {
                flying = λ k ne. ap flying (s.others k ne);
                spare = λ k ne. omega (arith, ap spare (s.others k ne));
              },
            );
      }
