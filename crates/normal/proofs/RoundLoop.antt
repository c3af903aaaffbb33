-- One round, row by row in place: at row i the rows before it have the chains through job k, cut down to the ceiling, and the others are as they were.
-- The row through k was taken out before, so that it does not matter when its own turn comes.
use Prim.Native.Nat.{ℕ, zero, suc, ◌+◌, ◌<◌, ◌≤◌, min}
use mathlib.Core.Path.{◌≡◌, refl, sym, ap, ◌∙◌}
use mathlib.Core.List.{List, [], map, map-map}
use lib.ListN.{length, get_or, set}
use lib.Seq.{set-get_or}
use Rattle.laws.proofs.Lists.{every_get_d}
use Rattle.laws.proofs.InPlace.{partly, partly_read, partly_more, partly_same, partly_all}
use Rattle.normal.specs.Gaps.{Square, cell, widened, through_row, round}
use Rattle.normal.specs.Arrays.{capped, RowWithin, Within}
use Rattle.normal.proofs.Ceiling.{row_stays}

-- what the round through k makes of a row
abbrev pub passed : ℕ → ℕ → List ℕ → List ℕ → List ℕ
passed most k through row = map (min most) (through_row (get_or row k 0) row through)

-- a row from which no chain leads to the job stays
through_none : (a : ℕ) (row through : List ℕ) → a ≡ 0 → through_row a row through ≡ row
unfolding through_row
through_none a row through e = rw e

-- any other is widened
through_some : (a : ℕ) (row through : List ℕ) → (a ≡ 0 → ⊥) → through_row a row through ≡ widened a row through
unfolding through_row
through_some zero row through h = absurd (h refl)
through_some (suc a) row through h = refl

module _ (most k : ℕ) (square : Square) where
  -- the square with its first i rows gone through
  abbrev pub passing : ℕ → Square
  passing = partly (passed most k (get_or square k [])) [] square

  module _ (within : Within most square) where
    -- each of its rows is within the ceiling
    pub row_of : (i : ℕ) → RowWithin most (get_or square i [])
    row_of = every_get_d (RowWithin most) square [] tt within

    module _ (i : ℕ) (now : Square) (h : i < length square) (e : now ≡ passing i) where
      -- row i is still as it was
      pub row_now : get_or now i [] ≡ get_or square i []
      row_now = ap (λ s. get_or s i []) e ∙ partly_read (passed most k (get_or square k [])) [] square i h

      -- a row that stays
      pub row_left : cell now i k ≡ 0 → set now i (get_or now i []) ≡ passing (i + 1)
      row_left z =
          set-get_or now i [] ∙ e ∙ partly_same (passed most k (get_or square k [])) [] square i h
          (ap (map (min most)) (through_none _ (get_or square i []) (get_or square k []) (rw row_now at z)) ∙ row_stays most (get_or square i []) (row_of i))

      -- a row that is widened
      pub row_taken : (row : List ℕ) → (cell now i k ≡ 0 → ⊥) → row ≡ map (min most) (widened (cell now i k) (get_or now i []) (get_or square k [])) → set now i row ≡ passing (i + 1)
      row_taken row z same =
          ap (λ r. set now i r) (same ∙ ap (map (min most)) (sym (through_some (cell now i k) (get_or now i []) (get_or square k []) z)) ∙ ap (passed most k (get_or square k [])) row_now)
          ∙ ap (λ s. set s i (passed most k (get_or square k []) (get_or square i []))) e
          ∙ partly_more (passed most k (get_or square k [])) [] square i h

  -- after the last row the round is done
  pub rows_done : (i : ℕ) → length square ≤ i → passing i ≡ capped most (round k square)
  unfolding capped round
  rows_done i h = partly_all (passed most k (get_or square k [])) [] square i h ∙ sym (map-map (map (min most)) (λ row. through_row (get_or row k 0) row (get_or square k [])) square)
