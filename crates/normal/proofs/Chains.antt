-- What the square of gaps says in plain words: a cell of 0 that no chain of links leads from i to j, any other the largest sum along one.
-- Attained: the cells of the links are chains, and chains that join are chains. Bounding: every link weighs at most its cell, and where no ring shows the square is closed
-- at every job of the table, so that the cells along a chain, joined link by link, make at most the cell between its ends.
use Prim.Native.Nat.{ℕ, zero, suc, ◌+◌, ◌≤◌, ◌<◌}
use native.Mathlib.Nat.{add_assoc}
use native.Mathlib.Omega.{arith}
use mathlib.Core.Path.{◌≡◌, refl}
use mathlib.Core.Bool.{true, false, not}
use mathlib.Core.List.{List, Memᴰ}
use lib.Dec.{eqb}
use borrow.Author.Tests.{eqb-true, eqb-false, not-true, not-false}
use Rattle.laws.specs.Lists.{count}
use Rattle.laws.proofs.Members.{any_member, any_false, count_member}
use Rattle.records.specs.Record.{link}
use Rattle.records.specs.declared.JobRecord.{JobRecord}
use Rattle.records.specs.declared.JobRecord.TheVariants.{L}
use Rattle.jobs.specs.Jobs.{numbers, cost, strongest}
use Rattle.jobs.specs.Judge.{Sound}
use Rattle.jobs.specs.Starts.{Chain, one, follow, Gap, Ring}
use Rattle.jobs.proofs.Sound.{numbers_below, cost_positive, link_known, strongest_bounds, strongest_attained}
use Rattle.normal.specs.Gaps.{Square, weight, link_square, gaps, cell, ring_in}
use Rattle.normal.proofs.Closure.{Cells, joined_sum, Closed, Attains}
use Rattle.normal.proofs.Squares.{Wide, drawn, drawn_wide, drawn_cell, of_drawn, rounds_grow, rounds_attain, rounds_close}

-- every cell of the square of gaps is right
pub record GapsRight (table : List JobRecord) : Type 0 where
  pub none : (i j w : ℕ) → cell (gaps table) i j ≡ 0 → Chain table i j w → ⊥
  pub some : (i j g : ℕ) → cell (gaps table) i j ≡ suc g → Gap table i j (suc g)

-- a square that shows a ring has a cell above 0 from some job to itself
ring_cell : (square : Square) → ring_in square ≡ true → (i : ℕ) × (g : ℕ) × (cell square i i ≡ suc g)
unfolding ring_in
ring_cell square e =
    let at = any_member (λ i. not (eqb (cell square i i) 0)) (count 0 48) e in
    above at.0 (cell square at.0 at.0) refl (not-true _ at.2)
  where
    above : (i c : ℕ) → cell square i i ≡ c → eqb c 0 ≡ false → (i : ℕ) × (g : ℕ) × (cell square i i ≡ suc g)
    above i zero h e = absurd (eqb-false 0 0 e refl)
    above i (suc g) h e = (i, g, h)

-- a square that shows none has 0 there
no_ring_cell : (square : Square) → ring_in square ≡ false → (i : ℕ) → i < 48 → cell square i i ≡ 0
unfolding ring_in
no_ring_cell square e i h = eqb-true _ 0 (not-false _ (any_false (λ i. not (eqb (cell square i i) 0)) (count 0 48) e i ((count_member 0 48 i).1 (omega arith))))

-- the strongest link weighs at least as much as any
weight_bounds : (c s l : ℕ) → l < s → c + l ≤ weight c s
weight_bounds c zero l h = absurd (omega arith)
weight_bounds c (suc s) l h = omega arith

module _ (table : List JobRecord) where
  -- chains that follow one another are one chain
  pub join : {i m j a b : ℕ} → Chain table i m a → Chain table m j b → Chain table i j (a + b)
  join (one l) d = follow l d
  join (follow l c) d = rw (add_assoc _ _ _) (follow l (join c d))

  -- what the strongest link weighs
  strong : Cells
  strong i j = weight (cost table i) (strongest table i j)

  -- the square of the links is made of these numbers
  links_drawn : link_square table ≡ drawn 48 strong
  unfolding link_square strong
  links_drawn = refl

  links_wide : Wide 48 (link_square table)
  links_wide = rw links_drawn (drawn_wide 48 strong)

  -- each cell above 0 is a chain of one link
  links_attained : Attains (Chain table) (cell (link_square table))
  unfolding strong
  links_attained i j g = rw links_drawn (of_drawn 48 strong (λ x. x ≡ suc g → Chain table i j (suc g)) i j (λ e. absurd (omega arith)) (by_link (strongest table i j) refl))
    where
      by_link : (s : ℕ) → strongest table i j ≡ s → weight (cost table i) s ≡ suc g → Chain table i j (suc g)
      by_link zero h e = absurd (omega arith)
      by_link (suc l) h e = rw e at (one (strongest_attained table i j l h))

  -- a cell above 0 is the sum along a chain
  pub gaps_attained : Attains (Chain table) (cell (gaps table))
  unfolding gaps
  gaps_attained = rounds_attain 48 (Chain table) (λ i m j a b. join) (numbers table) (link_square table) links_wide links_attained

  module _ (sound : Sound table) where
    -- a chain begins at a job of the table
    pub chain_from : {i j w : ℕ} → Chain table i j w → Memᴰ i (numbers table)
    chain_from (one l) = (link_known table sound _ l).0
    chain_from (follow l c) = (link_known table sound _ l).0

    -- and its sum is above 0
    pub chain_positive : {i j w : ℕ} → Chain table i j w → 0 < w
    chain_positive (one {i = i} l) = omega (arith, cost_positive table sound i (link_known table sound _ l).0)
    chain_positive (follow {i = i} l c) = omega (arith, cost_positive table sound i (link_known table sound _ l).0)

    -- a link weighs at most its cell
    link_bounds : (i j l : ℕ) → Memᴰ (L (link i j l)) table → cost table i + l ≤ cell (gaps table) i j
    unfolding gaps strong
    link_bounds i j l h =
        let known = link_known table sound (link i j l) h in
        let here : cell (link_square table) i j ≡ strong i j = rw links_drawn (drawn_cell 48 strong i j (numbers_below table i known.0) (numbers_below table j known.1)) in
        omega (arith, weight_bounds (cost table i) (strongest table i j) l (strongest_bounds table i j l h), rounds_grow 48 (numbers table) (link_square table) links_wide i j)

    module _ (none : ring_in (gaps table) ≡ false) where
      -- where no ring shows, the square is closed at every job of the table
      gaps_closed : (m : ℕ) → Memᴰ m (numbers table) → Closed (cell (gaps table)) m
      unfolding gaps
      gaps_closed = rounds_close 48 (numbers table) (link_square table) links_wide (λ k h. no_ring_cell (gaps table) none k (numbers_below table k h))

      -- so a chain's sum is at most its cell
      chain_bounds : {i j w : ℕ} → Chain table i j w → w ≤ cell (gaps table) i j
      chain_bounds (one {i = i} {j = j} {l = l} h) = link_bounds i j l h
      chain_bounds (follow {i = i} {k = k} {j = j} {l = l} h c) =
          let first = link_bounds i k l h in
          let others = chain_bounds c in
          let known = link_known table sound (link i k l) h in
          let positive = cost_positive table sound i known.0 in
          omega (arith, chain_positive c, gaps_closed k known.1 i j, joined_sum (cell (gaps table) i k) (cell (gaps table) k j) (omega arith) (omega (arith, chain_positive c)))

-- a ring that the square of gaps shows is there
pub ring_shown : {table : List JobRecord} → Sound table → ring_in (gaps table) ≡ true → Ring table
unfolding Ring
ring_shown {table} sound e = let at = ring_cell (gaps table) e in (at.0, suc at.1, gaps_attained table at.0 at.0 at.1 at.2)

-- where it shows none, there is none
pub ring_none : {table : List JobRecord} → Sound table → ring_in (gaps table) ≡ false → Ring table → ⊥
unfolding Ring
ring_none {table} sound e ring =
    let i = ring.0 in
    let chain = ring.2 in
    omega (arith, chain_positive table sound chain, chain_bounds table sound e chain, no_ring_cell (gaps table) e i (numbers_below table i (chain_from table sound chain)))

-- and every cell is right
pub gaps_right_lem : {table : List JobRecord} → Sound table → ring_in (gaps table) ≡ false → GapsRight table
gaps_right_lem {table} sound e = record {
  none = λ i j w h chain. omega (arith, chain_positive table sound chain, chain_bounds table sound e chain);
  some = λ i j g h. record { attained = gaps_attained table i j g h; bounds = λ w chain. omega (arith, chain_bounds table sound e chain) };
}
