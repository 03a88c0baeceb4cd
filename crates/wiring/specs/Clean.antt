-- The clean wiring: of each wire it keeps the frames that fly on it, and nothing else.
use Rattle.std.specs.Prelude.{ℕ, List, [], ◌∷◌, ◌++◌, map, Option, Result, slice_index_or}
use Rattle.cable.specs.Rows.{rest}
use Rattle.cable.specs.declared.refusal.Refusal.{Refusal}
use Rattle.wiring.specs.Wires.{flying_on}
use Rattle.wiring.specs.Wirings.{WiringModel}
use Rattle.wiring.specs.Lines.{SendsBy, TakesBy}
use Rattle.wiring.specs.declared.clean.Clean.{Clean}

abbrev pub clean_depth : ℕ
clean_depth = 4

abbrev pub flights_of : Clean → ℕ → List (List ℕ)
flights_of c k = slice_index_or (map flying_on c.flights) k []

-- it loses no frame
abbrev pub clean_means : Clean → WiringModel
clean_means c = record { flying = flights_of c; spare = λ k. 0; misses = 0; depth = clean_depth }

-- a frame that is sent is kept once
abbrev pub CleanSends : Clean → ℕ → List ℕ → Result (Unit {0}) Refusal → Clean → Type 0
CleanSends w wire f r v = SendsBy (λ l. l) clean_depth (λ l. l ++ f ∷ []) (flights_of w) wire r (flights_of v)

abbrev pub CleanTakes : Clean → ℕ → Result (Option (List ℕ)) Refusal → Clean → Type 0
CleanTakes w wire r v = TakesBy (λ l. l) rest (flights_of w) wire r (flights_of v)
