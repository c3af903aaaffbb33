-- The ceiling commutes with the rounds: the smaller of it and a sum, or of it and the larger of two numbers, depends on the two only through the smaller of it and each.
-- So a square that is cut down to the ceiling after each round is the square of gaps, cut down to it. Stated over any ceiling above 0.
use Prim.Native.Nat.{ℕ, zero, suc, ◌<◌, min, max}
use native.Mathlib.Nat.{min-zero}
use native.Mathlib.Omega.{arith}
use mathlib.Core.Path.{◌≡◌, refl, sym, ap, ap₂, ◌∙◌, fun_ext}
use mathlib.Core.List.{List, [], ◌∷◌, map}
use lib.ListN.{length, get_or, get_or-map}
use Rattle.laws.specs.Lists.{count}
use Rattle.laws.proofs.Filling.{map_places}
use Rattle.normal.specs.Gaps.{Square, joined, widened, through_row, round, rounds}
use Rattle.normal.specs.Arrays.{capped, RowWithin, Within}
use Rattle.normal.proofs.Closure.{joined_zero, joined_sum}
use Rattle.normal.proofs.Squares.{length_widened, widened_cell}

-- a row with the chains through a job, cell by cell
pub widened_places : (g : ℕ → ℕ) (a : ℕ) (row through : List ℕ) (n : ℕ) → length row ≡ n → length through ≡ n
    → map (λ k. g (max (get_or row k 0) (joined a (get_or through k 0)))) (count 0 n) ≡ map g (widened a row through)
widened_places g a row through n l m =
    ap (λ f. map f (count 0 n)) (fun_ext (λ k. ap g (sym (widened_cell a row through k (omega arith)))))
    ∙ map_places g (widened a row through) 0 n (length_widened a row through ∙ l)

module _ (most : ℕ) where
  -- a row that is cut down is within the ceiling
  row_within : (row : List ℕ) → RowWithin most (map (min most) row)
  row_within [] = tt
  row_within (x ∷ row) = (omega arith, row_within row)

  -- and a row within the ceiling stays as it is
  pub row_stays : (row : List ℕ) → RowWithin most row → map (min most) row ≡ row
  row_stays [] h = refl
  row_stays (x ∷ row) h = let same : min most x ≡ x = omega arith in ap₂ ◌∷◌ same (row_stays row h.1)

  -- so it is with squares
  pub capped_within : (square : Square) → Within most (capped most square)
  unfolding capped
  capped_within [] = tt
  capped_within (row ∷ square) = (row_within row, capped_within square)

  pub within_stays : (square : Square) → Within most square → capped most square ≡ square
  unfolding capped
  within_stays [] h = refl
  within_stays (row ∷ square) h = ap₂ ◌∷◌ (row_stays row h.0) (within_stays square h.1)

  -- of two numbers the larger one under the ceiling
  larger_cap : (a b : ℕ) → min most (max a b) ≡ max (min most a) (min most b)
  larger_cap a b = omega arith

  longer_cap : (c a b : ℕ) → min most a ≡ min most b → min most (max c a) ≡ min most (max (min most c) b)
  longer_cap c a b e =
      let twice : min most (min most c) ≡ min most c = omega arith in
      larger_cap c a ∙ ap₂ max (sym twice) e ∙ sym (larger_cap (min most c) b)

  module _ (positive : 0 < most) where
    -- two chains join under the ceiling as they do without
    joined_cap : (a b : ℕ) → min most (joined a b) ≡ min most (joined (min most a) (min most b))
    joined_cap zero b = rw (min-zero most) (sym (min-zero most))
    joined_cap (suc a) zero = rw (min-zero most, joined_zero) (sym (min-zero most))
    joined_cap (suc a) (suc b) = omega (arith, joined_sum (min most (suc a)) (min most (suc b)) (omega arith) (omega arith))

    widened_cap : (a : ℕ) (row through : List ℕ) → map (min most) (widened a row through) ≡ map (min most) (widened (min most a) (map (min most) row) (map (min most) through))
    unfolding widened
    widened_cap a [] through = refl
    widened_cap a (c ∷ cs) [] = sym (row_stays (map (min most) (c ∷ cs)) (row_within (c ∷ cs)))
    widened_cap a (c ∷ cs) (b ∷ bs) = ap₂ ◌∷◌ (longer_cap c (joined a b) (joined (min most a) (min most b)) (joined_cap a b)) (widened_cap a cs bs)

    through_cap : (a : ℕ) (row through : List ℕ) → map (min most) (through_row a row through) ≡ map (min most) (through_row (min most a) (map (min most) row) (map (min most) through))
    unfolding through_row
    through_cap zero row through = rw (min-zero most) (sym (row_stays (map (min most) row) (row_within row)))
    through_cap (suc a) row through = go (min most (suc a)) refl (widened_cap (suc a) row through)
      where
        go : (m : ℕ) → min most (suc a) ≡ m → map (min most) (widened (suc a) row through) ≡ map (min most) (widened m (map (min most) row) (map (min most) through))
            → map (min most) (widened (suc a) row through) ≡ map (min most) (through_row m (map (min most) row) (map (min most) through))
        go zero e h = absurd (omega arith)
        go (suc m) e h = h

    get_d_cap : (row : List ℕ) (k : ℕ) → get_or (map (min most) row) k 0 ≡ min most (get_or row k 0)
    get_d_cap row k = ap (get_or (map (min most) row) k) (sym (min-zero most)) ∙ get_or-map (min most) row k 0

    rows_cap : (k : ℕ) (through : List ℕ) (rows : Square) → capped most (map (λ row. through_row (get_or row k 0) row through) rows) ≡ capped most (map (λ row. through_row (get_or row k 0) row (map (min most) through)) (capped most rows))
    unfolding capped
    rows_cap k through [] = refl
    rows_cap k through (row ∷ rows) = ap₂ ◌∷◌ (through_cap (get_or row k 0) row through ∙ ap (λ a. map (min most) (through_row a (map (min most) row) (map (min most) through))) (sym (get_d_cap row k))) (rows_cap k through rows)

    -- a round over the square that is cut down
    round_cap : (k : ℕ) (square : Square) → capped most (round k square) ≡ capped most (round k (capped most square))
    unfolding round capped
    round_cap k square =
        rows_cap k (get_or square k []) square
        ∙ ap (λ through. map (map (min most)) (map (λ row. through_row (get_or row k 0) row through) (map (map (min most)) square))) (sym (get_or-map (map (min most)) square k []))

    -- the rounds over the square that is cut down
    pub rounds_cap : (ks : List ℕ) (square : Square) → capped most (rounds ks (capped most square)) ≡ capped most (rounds ks square)
    unfolding rounds
    rounds_cap [] square = within_stays (capped most square) (capped_within square)
    rounds_cap (k ∷ ks) square = sym (rounds_cap ks (round k (capped most square))) ∙ ap (λ s. capped most (rounds ks s)) (sym (round_cap k square)) ∙ rounds_cap ks (round k square)
