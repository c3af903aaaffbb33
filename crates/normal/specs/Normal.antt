-- The normal form, as records.
use Rattle.std.specs.Prelude.{ℕ, zero, suc, ◌+◌, ◌-◌, List, [], ◌++◌, map, get_or, ltb}
use Rattle.laws.specs.Lists.{only, flat}
use Rattle.records.specs.Record.{job, link}
use Rattle.records.specs.declared.Job.{Job}
use Rattle.records.specs.declared.Link.{Link}
use Rattle.records.specs.declared.JobRecord.{JobRecord}
use Rattle.records.specs.declared.JobRecord.TheVariants.{J, L}
use Rattle.jobs.specs.Jobs.{numbers, cost, jobs_in_order}
use Rattle.normal.specs.Gaps.{Square, cell, gaps}
use Rattle.normal.specs.Windows.{windows}
use Rattle.normal.specs.declared.Windows.{Windows}

-- "cost as it was, release = earliest start, deadline = latest start + cost"
unfoldable pub normal_job : Windows → Job → Job
normal_job w j = job j.number j.cost (get_or w.earliest j.number 0) (get_or w.latest j.number 0 + j.cost)

-- "A pair joined by a chain is written exactly when gap(i, j) > earliest(j) - latest(i) (this may be negative), with latency gap(i, j) - cost(i)"
unfoldable pub pair_link : List JobRecord → Windows → ℕ → ℕ → ℕ → List Link
pair_link table w i j zero = []
pair_link table w i j (suc gap) =
    only (ltb (get_or w.earliest j 0) (suc gap + get_or w.latest i 0)) (link i j (suc gap - cost table i))

-- "L records, by from and then to"
unfoldable pub normal_links : List JobRecord → Square → Windows → List Link
normal_links table square w =
    flat (λ i. flat (λ j. pair_link table w i j (cell square i j)) (numbers table)) (numbers table)

-- "one J record a job, by number", "then L records": "links follow straight after the last job record"
unfoldable pub normal_records : List JobRecord → Square → Windows → List JobRecord
normal_records table square w = map J (map (normal_job w) (jobs_in_order table)) ++ map L (normal_links table square w)

-- the normal form of a table, from its square of gaps
unfoldable pub normal_by : List JobRecord → Square → List JobRecord
normal_by table square = normal_records table square (windows table square)

-- the normal form of a table
unfoldable pub normal_form : List JobRecord → List JobRecord
normal_form table = normal_by table (gaps table)
