-- "The normaliser works out the longest gap between every two jobs": a square of gaps by job number, 48 by 48.
-- A link weighs its from job's cost and its latency, at least 1, so that a cell of 0 says that no chain leads from i to j.
use Rattle.std.specs.Prelude.{ℕ, zero, suc, ◌+◌, max, Bool, not, List, [], ◌∷◌, map, get_or, eqb}
use Rattle.laws.specs.Lists.{count, any}
use Rattle.records.specs.declared.JobRecord.{JobRecord}
use Rattle.jobs.specs.Jobs.{numbers, cost, strongest}

-- a square of numbers: its rows
abbrev pub Square : Type 0
Square = List (List ℕ)

-- the cell in row i and column j
abbrev pub cell : Square → ℕ → ℕ → ℕ
cell square i j = get_or (get_or square i []) j 0

-- what the strongest link weighs
abbrev pub weight : ℕ → ℕ → ℕ
weight c zero = 0
weight c (suc latency) = c + latency

-- the square of the links: cost and latency of the strongest from i to j
unfoldable pub link_square : List JobRecord → Square
link_square table = map (λ i. map (λ j. weight (cost table i) (strongest table i j)) (count 0 48)) (count 0 48)

-- the sum of two chains that are joined, and 0 where one of them is none
abbrev pub joined : ℕ → ℕ → ℕ
joined zero b = 0
joined (suc a) zero = 0
joined (suc a) (suc b) = suc a + suc b

-- a row with the chains through a job: `a` is the row's own chain to that job, and `through` that job's row
unfoldable pub widened : ℕ → List ℕ → List ℕ → List ℕ
widened a [] through = []
widened a (c ∷ cs) [] = c ∷ cs
widened a (c ∷ cs) (b ∷ bs) = max c (joined a b) ∷ widened a cs bs

-- the row, where no chain leads to the job, else with the chains through it
unfoldable pub through_row : ℕ → List ℕ → List ℕ → List ℕ
through_row zero row through = row
through_row (suc a) row through = widened (suc a) row through

-- the square with the chains through job k
unfoldable pub round : ℕ → Square → Square
round k square = map (λ row. through_row (get_or row k 0) row (get_or square k [])) square

-- the square with the chains through each of some jobs
unfoldable pub rounds : List ℕ → Square → Square
rounds [] square = square
rounds (k ∷ ks) square = rounds ks (round k square)

-- the square of gaps
unfoldable pub gaps : List JobRecord → Square
gaps table = rounds (numbers table) (link_square table)

-- 7: "the links form a ring"
unfoldable pub ring_in : Square → Bool
ring_in square = any (λ i. not (eqb (cell square i i) 0)) (count 0 48)
