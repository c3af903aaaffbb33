-- Cases K and L, the example's expansion, and the rows that tell misreadings apart which A to L do not, worked by hand.
use Rattle.std.specs.Prelude.{ℕ, ◌+◌, ◌*◌, List, [], ◌∷◌, ◌++◌, map, replicate}
use Rattle.laws.specs.Lists.{count}
use Rattle.records.specs.declared.PassRecord.{PassRecord}
use Rattle.records.specs.declared.JobRecord.{JobRecord}
use Rattle.cases.specs.Case.{Case, Call, expanding, normalising, scheduling, expands, normalises, schedules, refuses, refuses_in, p, f, j, l, s, passes, jobs}
use Rattle.cases.specs.Starred.{example_jobs}

-- the example of the print program: P 0 cost 300, period 1000; P 1 cost 100, period 500; F 0 to 1, latency 50
abbrev example_passes : List PassRecord
example_passes = p 0 300 1000 0 1000 ∷ p 1 100 500 0 500 ∷ f 0 1 50 ∷ []

-- one pass of cost 1, phase 0, finish 1, by its period
abbrev alone : ℕ → List PassRecord
alone period = p 0 1 period 0 1 ∷ []

-- two passes of cost 1, phase 0, finish 1, by their periods
abbrev two : ℕ → ℕ → List PassRecord
two a b = p 0 1 a 0 1 ∷ p 1 1 b 0 1 ∷ []

-- four jobs of cost 1 with wide windows, and links
abbrev pub four_jobs : List JobRecord → List JobRecord
four_jobs links = j 0 1 0 100 ∷ j 1 1 0 100 ∷ j 2 1 0 100 ∷ j 3 1 0 100 ∷ links

-- two links 0 to 1, of latency 3 and then 1
abbrev pub strong_first : List JobRecord
strong_first = four_jobs (l 0 1 3 ∷ l 0 1 1 ∷ [])

-- of latency 1 and then 3
abbrev pub strong_last : List JobRecord
strong_last = four_jobs (l 0 1 1 ∷ l 0 1 3 ∷ [])

-- eleven bytes, to each call
abbrev eleven : Call → Case
eleven call = refuses call (replicate 11 0) 1 0

-- the table of further cases
unfoldable pub further : List Case
further =
    -- K: "Period 48,000 alone .. done; period 48,001: 6. Periods 940 and 20: 48 jobs, done; 960 and 20: 6"
    expands (alone 48000) (j 0 1 0 1 ∷ [])
    ∷ refuses expanding (passes (alone 48001)) 6 0
    ∷ expands (two 940 20) (j 0 1 0 1 ∷ map (λ k. j (1 + k) 1 (20 * k) (20 * k + 1)) (count 0 47))
    ∷ refuses expanding (passes (two 960 20)) 6 0
    -- L: "Phase 400, finish 600, period 1000 passes; finish 601: 4. Eleven bytes: 1. Job number 47 passes, 48: 3. A link to job 200: 5"
    ∷ expands (p 0 1 1000 400 600 ∷ []) (j 0 1 400 1000 ∷ [])
    ∷ refuses expanding (passes (p 0 1 1000 400 601 ∷ [])) 4 0
    ∷ eleven expanding
    ∷ eleven normalising
    ∷ eleven (scheduling 1)
    ∷ normalises (j 47 1 0 100 ∷ []) (j 47 1 0 100 ∷ [])
    ∷ refuses normalising (jobs (j 48 1 0 100 ∷ [])) 3 0
    ∷ refuses normalising (jobs (j 0 1 0 100 ∷ l 0 200 0 ∷ [])) 5 0
    -- the example, as it expands
    ∷ expands example_passes example_jobs
    -- never going back from the first open child
    ∷ schedules (j 0 1 0 4 ∷ j 1 2 0 4 ∷ j 2 1 2 3 ∷ []) 5 5 (s 1 0 2 ∷ s 2 2 3 ∷ s 0 3 4 ∷ [])
    -- the written window in the test for remaining jobs
    ∷ refuses (scheduling 9) (jobs (j 0 2 0 4 ∷ j 1 1 0 1 ∷ j 2 1 0 3 ∷ l 0 2 0 ∷ [])) 10 0
    ∷ schedules (j 0 1 1 2 ∷ j 1 1 0 3 ∷ l 1 0 0 ∷ []) 3 3 (s 1 0 1 ∷ s 0 1 2 ∷ [])
    -- the first or the last of repeated links in place of the strongest
    ∷ normalises strong_first (j 0 1 0 96 ∷ j 1 1 4 100 ∷ j 2 1 0 100 ∷ j 3 1 0 100 ∷ l 0 1 3 ∷ [])
    ∷ normalises strong_last (j 0 1 0 96 ∷ j 1 1 4 100 ∷ j 2 1 0 100 ∷ j 3 1 0 100 ∷ l 0 1 3 ∷ [])
    -- links ordered by to and then from, and records that stand in another order than by number
    ∷ normalises (l 1 2 0 ∷ l 0 3 0 ∷ four_jobs []) (j 0 1 0 99 ∷ j 1 1 0 99 ∷ j 2 1 1 100 ∷ j 3 1 1 100 ∷ l 0 3 0 ∷ l 1 2 0 ∷ [])
    -- numbering jobs in table order
    ∷ expands (p 5 7 10 0 10 ∷ p 2 3 5 0 5 ∷ []) (j 0 3 0 5 ∷ j 1 3 5 10 ∷ j 2 7 0 10 ∷ [])
    -- matching only i = j, or only i = 1, and a flow's repeat left out
    ∷ expands (p 0 1 1 0 1 ∷ p 1 1 2 0 2 ∷ p 2 1 4 0 4 ∷ f 0 1 6 ∷ f 1 0 7 ∷ f 0 1 6 ∷ [])
    (j 0 1 0 1 ∷ j 1 1 1 2 ∷ j 2 1 2 3 ∷ j 3 1 3 4 ∷ j 4 1 0 2 ∷ j 5 1 2 4 ∷ j 6 1 0 4 ∷ l 0 4 6 ∷ l 2 5 6 ∷ l 4 0 7 ∷ l 5 2 7 ∷ l 0 4 6 ∷ l 2 5 6 ∷ [])
    -- phase left out of the release, or counted twice
    ∷ expands (p 0 2 10 3 4 ∷ p 1 1 20 0 20 ∷ []) (j 0 2 3 7 ∷ j 1 2 13 17 ∷ j 2 1 0 20 ∷ [])
    -- one byte short of the room, which comes before 10 and 11 and after 7 and 8
    ∷ refuses_in 47 expanding (passes example_passes) 9 0
    ∷ refuses_in 47 normalising (jobs example_jobs) 9 0
    ∷ refuses_in 35 (scheduling 0) (jobs example_jobs) 9 0
    ∷ refuses_in 23 (scheduling 0) (jobs (j 0 2 0 3 ∷ j 1 2 0 3 ∷ [])) 9 0
    ∷ refuses_in 0 normalising (jobs (j 0 4 0 3 ∷ [])) 8 0
    -- a kind that is not of this table, and a z byte that is not zero, before the 3 of another record
    ∷ refuses normalising (jobs (j 99 1 0 1 ∷ []) ++ passes (p 0 1 1 0 1 ∷ [])) 2 0
    ∷ refuses expanding (passes (p 99 1 1 0 1 ∷ []) ++ replicate 11 70 ++ 0 ∷ []) 2 0
    -- the lowest of 3, 4 and 5 over the whole table
    ∷ refuses normalising (jobs (l 0 9 0 ∷ j 0 0 0 1 ∷ j 0 1 0 1 ∷ [])) 3 0
    ∷ refuses normalising (jobs (l 0 9 0 ∷ j 0 0 0 1 ∷ [])) 4 0
    -- 7 comes before 8
    ∷ refuses normalising (jobs (j 0 4 0 3 ∷ j 1 1 0 9 ∷ j 2 1 0 9 ∷ l 1 2 0 ∷ l 2 1 0 ∷ [])) 7 0
    ∷ []
