-- "then for each job the earliest and the latest permitted start", from a square of gaps without a ring.
use Rattle.std.specs.Prelude.{ℕ, zero, suc, ◌+◌, ◌-◌, max, min, Bool, List, [], ◌∷◌, map, ltb}
use Rattle.laws.specs.Lists.{count, any, largest}
use Rattle.records.specs.declared.JobRecord.{JobRecord}
use Rattle.jobs.specs.Jobs.{numbers, cost, release, deadline, jobs_in_order}
use Rattle.normal.specs.Gaps.{Square, cell}
use Rattle.normal.specs.declared.Windows.{Windows}

-- a time and the gap after it, and 0 where there is no chain
abbrev pub after : ℕ → ℕ → ℕ
after time zero = 0
after time (suc gap) = time + suc gap

-- the earliest permitted start of job j: its release, and each release of a job that leads to it with the gap between them
unfoldable pub earliest_of : List JobRecord → Square → ℕ → ℕ
earliest_of table square j =
    max (release table j) (largest (map (λ i. after (release table i) (cell square i j)) (numbers table)))

-- the last start by which a job ends by its deadline
unfoldable pub last_start : List JobRecord → ℕ → ℕ
last_start table j = deadline table j - cost table j

-- a time and the gap before it, and another time where there is no chain
abbrev pub before : ℕ → ℕ → ℕ → ℕ
before other time zero = other
before other time (suc gap) = time - suc gap

-- the smallest of a number and a list of numbers
abbrev pub smallest : ℕ → List ℕ → ℕ
smallest n [] = n
smallest n (x ∷ xs) = min x (smallest n xs)

-- the latest permitted start of job j: its last start, and that of each job it leads to, less the gap between them.
-- Nothing here goes below zero in a table that 8 does not refuse.
unfoldable pub latest_of : List JobRecord → Square → ℕ → ℕ
latest_of table square j =
    smallest (last_start table j)
    (map (λ k. before (last_start table j) (last_start table k) (cell square j k)) (numbers table))

-- 8: "no start times meet windows and links, even with overlap allowed": a job whose earliest start is too late for its deadline
unfoldable pub no_starts : List JobRecord → Square → Bool
no_starts table square =
    any (λ j. ltb j.deadline (earliest_of table square j.number + j.cost)) (jobs_in_order table)

-- the windows by job number: each job's earliest and its latest permitted start
unfoldable pub windows : List JobRecord → Square → Windows
windows table square = record {
  earliest = map (earliest_of table square) (count 0 48);
  latest = map (latest_of table square) (count 0 48);
}
