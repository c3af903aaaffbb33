-- From passes to jobs: the cycle, the instances, the jobs and links that a pass table expands to.
use Rattle.std.specs.Prelude.{ℕ, zero, suc, ◌+◌, ◌-◌, ◌*◌, ◌/◌, ◌%◌, Bool, true, false, cond, ◌||◌, List, [], ◌∷◌, ◌++◌, map, length, eqb, ltb, Option, None, Some}
use Rattle.laws.specs.Lists.{count, total, only, any, keep, flat}
use Rattle.records.specs.Record.{pass, job, link}
use Rattle.records.specs.declared.Pass.{Pass}
use Rattle.records.specs.declared.Flow.{Flow}
use Rattle.records.specs.declared.Job.{Job}
use Rattle.records.specs.declared.Link.{Link}
use Rattle.records.specs.declared.PassRecord.{PassRecord}
use Rattle.records.specs.declared.PassRecord.TheVariants.{P, F}
use Rattle.records.specs.declared.JobRecord.{JobRecord}
use Rattle.records.specs.declared.JobRecord.TheVariants.{J, L}
use Rattle.passes.specs.Judge.{is_pass}

-- a value of the pass with a number, and 0 where there is none
unfoldable pub of_pass : (Pass → ℕ) → List PassRecord → ℕ → ℕ
of_pass value [] n = 0
of_pass value (P p ∷ table) n = cond (eqb p.number n) (value p) (of_pass value table n)
of_pass value (F f ∷ table) n = of_pass value table n

-- the pass with a number
unfoldable pub pass_at : List PassRecord → ℕ → Pass
pass_at table n =
    pass n (of_pass (λ p. p.cost) table n) (of_pass (λ p. p.period) table n) (of_pass (λ p. p.phase) table n) (of_pass (λ p. p.within) table n)

-- the passes "by rising pass number"
unfoldable pub passes_in_order : List PassRecord → List Pass
passes_in_order table = map (pass_at table) (keep (λ n. any (is_pass n) table) (count 0 24))

-- the flows "as they stand in the table"
unfoldable pub flows_of : List PassRecord → List Flow
flows_of [] = []
flows_of (P p ∷ table) = flows_of table
flows_of (F f ∷ table) = f ∷ flows_of table

-- the first of m, m + a, m + 2·a, .. that b divides, or the last of the n + 1 of them
unfoldable pub multiple_from : ℕ → ℕ → ℕ → ℕ → ℕ
multiple_from a b m zero = m
multiple_from a b m (suc n) = elim (eqb (m % b) 0) [ true ↦ m | false ↦ multiple_from a b (m + a) n ]

-- the least common multiple: the first of a, 2·a, .., b·a that b divides
unfoldable pub lcm : ℕ → ℕ → ℕ
lcm a b = multiple_from a b a (b - 1)

-- the least common multiple of `c` and the periods of the passes listed
unfoldable pub cycle_from : ℕ → List Pass → ℕ
cycle_from c [] = c
cycle_from c (p ∷ ps) = cycle_from (lcm c p.period) ps

-- "The cycle is the least common multiple of all periods; for no passes it is 1"
unfoldable pub cycle_of : List PassRecord → ℕ
cycle_of table = cycle_from 1 (passes_in_order table)

-- a number of ticks, where it is at most 48,000
abbrev pub within_limit : ℕ → Option ℕ
within_limit ticks = cond (ltb 48000 ticks) None (Some ticks)

-- "A pass with period T has cycle / T instances"
unfoldable pub instances : ℕ → Pass → ℕ
instances cycle p = cycle / p.period

-- "Instance k, from 1, has release (k-1)·T + phase, deadline release + finish within, and the pass's cost"; `first` is the number of instance 1's job
unfoldable pub instance_of : Pass → ℕ → ℕ → Job
instance_of p first k =
    job (first + (k - 1)) p.cost ((k - 1) * p.period + p.phase) ((k - 1) * p.period + p.phase + p.within)

-- "Jobs are numbered from 0, by rising pass number and then instance": those of the passes listed, from the number `first` on
unfoldable pub jobs_from : ℕ → ℕ → List Pass → List Job
jobs_from cycle first [] = []
jobs_from cycle first (p ∷ ps) =
    map (instance_of p first) (count 1 (instances cycle p)) ++ jobs_from cycle (first + instances cycle p) ps

-- how many jobs the passes listed have
unfoldable pub job_count : ℕ → List Pass → ℕ
job_count cycle ps = total (map (instances cycle) ps)

-- the number of a pass's first job: as many jobs stand before it as the passes of lower number have
unfoldable pub first_job : ℕ → List Pass → ℕ → ℕ
first_job cycle [] n = 0
first_job cycle (p ∷ ps) n = cond (ltb p.number n) (instances cycle p) 0 + first_job cycle ps n

-- "instance i of the source and j of the target are linked when (i-1)·(source period) = (j-1)·(target period), with the flow's latency"
unfoldable pub pair_links : ℕ → List Pass → Flow → Pass → Pass → ℕ → ℕ → List Link
pair_links cycle ps f p q i j =
    only (eqb ((i - 1) * p.period) ((j - 1) * q.period))
    (link (first_job cycle ps p.number + (i - 1)) (first_job cycle ps q.number + (j - 1)) f.latency)

-- the links of a flow from pass p to pass q, "within a flow by rising i"
unfoldable pub links_between : ℕ → List Pass → Flow → Pass → Pass → List Link
links_between cycle ps f p q =
    flat (λ i. flat (pair_links cycle ps f p q i) (count 1 (instances cycle q))) (count 1 (instances cycle p))

-- the links of a flow
unfoldable pub flow_links : List PassRecord → ℕ → Flow → List Link
flow_links table cycle f =
    links_between cycle (passes_in_order table) f (pass_at table f.source) (pass_at table f.target)

-- "Output: job records by number, then links, flow by flow as they stand in the table"
unfoldable pub expanded : List PassRecord → List JobRecord
expanded table =
    map J (jobs_from (cycle_of table) 0 (passes_in_order table)) ++ map L (flat (flow_links table (cycle_of table)) (flows_of table))

-- 6: "cycle over 48,000 ticks, over 48 jobs, or over 64 F records, repeats counted"
unfoldable pub too_large : List PassRecord → Bool
too_large table =
    ltb 48000 (cycle_of table) || ltb 48 (job_count (cycle_of table) (passes_in_order table)) || ltb 64 (length (flows_of table))
