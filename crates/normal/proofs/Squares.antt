-- The rounds over squares with rows of one length: each cell after a round is what one round of the closing makes of the cells before it.
-- So, by induction on the rounds, cells only grow, and if none of the jobs gone through has a ring at the end, the square is closed at each of them.
use Prim.Native.Nat.{ℕ, zero, suc, ◌+◌, ◌≤◌, ◌<◌, max}
use native.Mathlib.Nat.{le_trans}
use native.Mathlib.Omega.{arith}
use mathlib.Core.Path.{◌≡◌, refl, ap, ◌∙◌}
use mathlib.Core.List.{List, [], ◌∷◌, map, Memᴰ}
use lib.ListN.{length, get_or}
use Rattle.laws.specs.Lists.{count, Every}
use Rattle.laws.proofs.Lists.{every_get_d, every_weaker, every_count}
use Rattle.laws.proofs.Rows.{length_row, get_d_row, of_row}
use Rattle.normal.specs.Gaps.{Square, cell, joined, widened, through_row, round, rounds}
use Rattle.normal.proofs.Closure.{Cells, joined_zero, Closed, Attains, Passed, grows, attains, closes, stays_closed}

-- every row of the square has n cells
abbrev pub Wide : ℕ → Square → Type 0
Wide n = Every (λ row. length row ≡ n)

module _ (n : ℕ) (f : Cells) where
  -- the square of n rows of n cells that is made of numbers
  abbrev pub drawn : Square
  drawn = map (λ i. map (f i) (count 0 n)) (count 0 n)

  -- its rows have n cells
  pub drawn_wide : Wide n drawn
  drawn_wide = every_count (λ (row : List ℕ). length row ≡ n) (λ i. map (f i) (count 0 n)) 0 n (λ i h. length_row (f i) 0 n)

  -- and its cells are those numbers
  pub drawn_cell : (i j : ℕ) → i < n → j < n → cell drawn i j ≡ f i j
  drawn_cell i j h k = ap (λ row. get_or row j 0) (get_d_row (λ i. map (f i) (count 0 n)) n i [] h) ∙ get_d_row (f i) n j 0 k

  -- what holds of 0 and of the number holds of the cell
  pub of_drawn : (P : ℕ → Type 0) (i j : ℕ) → P 0 → P (f i j) → P (cell drawn i j)
  of_drawn P i j p q = of_row (λ row. P (get_or row j 0)) (λ i. map (f i) (count 0 n)) n i [] p (of_row P (f i) n j 0 p q)

-- a row keeps its length
pub length_widened : (a : ℕ) (row through : List ℕ) → length (widened a row through) ≡ length row
unfolding widened
length_widened a [] through = refl
length_widened a (c ∷ cs) [] = refl
length_widened a (c ∷ cs) (b ∷ bs) = ap suc (length_widened a cs bs)

length_through : (a : ℕ) (row through : List ℕ) → length (through_row a row through) ≡ length row
unfolding through_row
length_through zero row through = refl
length_through (suc a) row through = length_widened (suc a) row through

-- a cell of a row after the round, if the row gone through is no longer than it
pub widened_cell : (a : ℕ) (row through : List ℕ) (j : ℕ) → length through ≤ length row → get_or (widened a row through) j 0 ≡ max (get_or row j 0) (joined a (get_or through j 0))
unfolding widened
widened_cell a [] [] j h = rw joined_zero
widened_cell a [] (b ∷ bs) j h = absurd (omega arith)
widened_cell a (c ∷ cs) [] j h = rw joined_zero (omega arith)
widened_cell a (c ∷ cs) (b ∷ bs) zero h = refl
widened_cell a (c ∷ cs) (b ∷ bs) (suc j) h = widened_cell a cs bs j (omega arith)

through_cell : (a : ℕ) (row through : List ℕ) (j : ℕ) → length through ≤ length row → get_or (through_row a row through) j 0 ≡ max (get_or row j 0) (joined a (get_or through j 0))
unfolding through_row
through_cell zero row through j h = omega arith
through_cell (suc a) row through j h = widened_cell (suc a) row through j h

-- the same of any row of the square
rows_cell : (n k : ℕ) (through : List ℕ) → length through ≤ n → (rows : Square) → Wide n rows → (i j : ℕ) → cell (map (λ row. through_row (get_or row k 0) row through) rows) i j ≡ max (cell rows i j) (joined (cell rows i k) (get_or through j 0))
rows_cell n k through h [] wide i j = refl
rows_cell n k through h (row ∷ rows) wide zero j = through_cell (get_or row k 0) row through j (omega arith)
rows_cell n k through h (row ∷ rows) wide (suc i) j = rows_cell n k through h rows wide.1 i j

rows_wide : (n k : ℕ) (through : List ℕ) (rows : Square) → Wide n rows → Wide n (map (λ row. through_row (get_or row k 0) row through) rows)
rows_wide n k through [] wide = tt
rows_wide n k through (row ∷ rows) wide = (length_through (get_or row k 0) row through ∙ wide.0, rows_wide n k through rows wide.1)

-- when some jobs have been gone through, no chain leads from one of them to itself
abbrev pub NoRing : List ℕ → Square → Type 0
NoRing ks square = (k : ℕ) → Memᴰ k ks → cell (rounds ks square) k k ≡ 0

module _ (n : ℕ) where
  -- a round over a square is a round of the closing over its cells
  pub round_passes : (k : ℕ) (square : Square) → Wide n square → Passed k (cell square) (cell (round k square))
  unfolding round
  round_passes k square wide = rows_cell n k (get_or square k []) (every_get_d (λ row. length row ≤ n) square [] (omega arith) (every_weaker (λ row. length row ≡ n) (λ row. length row ≤ n) (λ row e. omega arith) square wide) k) square wide

  -- and leaves rows of the same length
  pub round_wide : (k : ℕ) (square : Square) → Wide n square → Wide n (round k square)
  unfolding round
  round_wide k square wide = rows_wide n k (get_or square k []) square wide

  -- no cell shrinks
  pub rounds_grow : (ks : List ℕ) (square : Square) → Wide n square → (i j : ℕ) → cell square i j ≤ cell (rounds ks square) i j
  unfolding rounds
  rounds_grow [] square wide i j = omega arith
  rounds_grow (k ∷ ks) square wide i j = le_trans (grows k _ _ (round_passes k square wide) i j) (rounds_grow ks (round k square) (round_wide k square wide) i j)

  -- a property that passes on from two chains to the one they join to holds after the rounds, if it did before
  pub rounds_attain : (P : ℕ → ℕ → ℕ → Type 0) → ((i m j a b : ℕ) → P i m a → P m j b → P i j (a + b)) → (ks : List ℕ) (square : Square) → Wide n square → Attains P (cell square) → Attains P (cell (rounds ks square))
  unfolding rounds
  rounds_attain P join [] square wide h = h
  rounds_attain P join (k ∷ ks) square wide h = rounds_attain P join ks (round k square) (round_wide k square wide) (attains k _ _ (round_passes k square wide) P join h)

  -- a job without a ring at the end of the rounds never had one
  none_before : (k : ℕ) (ks : List ℕ) (square : Square) → Wide n square → NoRing (k ∷ ks) square → cell square k k ≡ 0
  none_before k ks square wide none = omega (arith, rounds_grow (k ∷ ks) square wide k k, none k (Memᴰ.head refl))

  -- so the square stays closed where it was
  rounds_stay : (ks : List ℕ) (square : Square) → Wide n square → NoRing ks square → (m : ℕ) → Closed (cell square) m → Closed (cell (rounds ks square)) m
  unfolding rounds
  rounds_stay [] square wide none m closed = closed
  rounds_stay (k ∷ ks) square wide none m closed = rounds_stay ks (round k square) (round_wide k square wide) (λ k h. none k (Memᴰ.tail h)) m (stays_closed k _ _ (round_passes k square wide) (none_before k ks square wide none) m closed)

  -- and is closed at each of the jobs
  pub rounds_close : (ks : List ℕ) (square : Square) → Wide n square → NoRing ks square → (m : ℕ) → Memᴰ m ks → Closed (cell (rounds ks square)) m
  unfolding rounds
  rounds_close [] square wide none m h = elim h [ ]
  rounds_close (k ∷ ks) square wide none m (Memᴰ.head e) = rounds_stay ks (round k square) (round_wide k square wide) (λ k h. none k (Memᴰ.tail h)) m (rw e (closes k _ _ (round_passes k square wide) (none_before k ks square wide none)))
  rounds_close (k ∷ ks) square wide none m (Memᴰ.tail h) = rounds_close ks (round k square) (round_wide k square wide) (λ k h. none k (Memᴰ.tail h)) m h
