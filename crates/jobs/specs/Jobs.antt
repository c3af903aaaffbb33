-- The jobs of a table by number, and its links.
use Rattle.std.specs.Prelude.{ℕ, ◌+◌, max, cond, ◌&&◌, List, [], ◌∷◌, map, eqb}
use Rattle.laws.specs.Lists.{count, any, keep}
use Rattle.records.specs.Record.{job}
use Rattle.records.specs.declared.Job.{Job}
use Rattle.records.specs.declared.JobRecord.{JobRecord}
use Rattle.records.specs.declared.JobRecord.TheVariants.{J, L}
use Rattle.jobs.specs.Judge.{is_job}

-- the job numbers of a table, rising
unfoldable pub numbers : List JobRecord → List ℕ
numbers table = keep (λ n. any (is_job n) table) (count 0 48)

-- a value of the job with a number, and 0 where there is none
unfoldable pub of_job : (Job → ℕ) → List JobRecord → ℕ → ℕ
of_job value [] n = 0
of_job value (J j ∷ table) n = cond (eqb j.number n) (value j) (of_job value table n)
of_job value (L l ∷ table) n = of_job value table n

-- the cost of the job with a number
abbrev pub cost : List JobRecord → ℕ → ℕ
cost = of_job (λ j. j.cost)

-- its release
abbrev pub release : List JobRecord → ℕ → ℕ
release = of_job (λ j. j.release)

-- its deadline
abbrev pub deadline : List JobRecord → ℕ → ℕ
deadline = of_job (λ j. j.deadline)

-- the job with a number
unfoldable pub job_at : List JobRecord → ℕ → Job
job_at table n = job n (cost table n) (release table n) (deadline table n)

-- the jobs by rising number
unfoldable pub jobs_in_order : List JobRecord → List Job
jobs_in_order table = map (job_at table) (numbers table)

-- "Repeated .. links are allowed; the strongest counts": one more than the largest latency of the links from i to j, and 0 where there is none
unfoldable pub strongest : List JobRecord → ℕ → ℕ → ℕ
strongest [] i j = 0
strongest (J x ∷ table) i j = strongest table i j
strongest (L l ∷ table) i j = max (cond (eqb l.from i && eqb l.to j) (l.latency + 1) 0) (strongest table i j)
