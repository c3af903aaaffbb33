-- The normal form as the code holds it: its jobs in arrays by number, and a square of the links that are written.
use Rattle.std.specs.Prelude.{ℕ, zero, suc, ◌+◌, ◌-◌, ◌<◌, ◌≤◌, false, cond, List, [], ◌∷◌, map, get_or, ltb}
use Rattle.laws.specs.Lists.{count, keep, flat}
use Rattle.records.specs.Record.{job, link}
use Rattle.records.specs.declared.Job.{Job}
use Rattle.records.specs.declared.Link.{Link}
use Rattle.jobs.specs.declared.Jobs.{Jobs}
use Rattle.normal.specs.Gaps.{Square, cell}
use Rattle.normal.specs.declared.Windows.{Windows}

-- the numbers of the jobs, rising
unfoldable pub present_in : Jobs → List ℕ
present_in jobs = keep (λ n. get_or jobs.present n false) (count 0 48)

-- the normal form's job with a number
unfoldable pub job_in : Jobs → Windows → ℕ → Job
job_in jobs w n = job n (get_or jobs.cost n 0) (get_or w.earliest n 0) (get_or w.latest n 0 + get_or jobs.cost n 0)

-- its jobs, by number
unfoldable pub jobs_in : Jobs → Windows → List Job
jobs_in jobs w = map (job_in jobs w) (present_in jobs)

-- the new deadlines are 16-bit numbers
abbrev pub EndsFit : Jobs → Windows → Type 0
EndsFit jobs w = (n : ℕ) → n < 48 → get_or w.latest n 0 + get_or jobs.cost n 0 < 65536

-- one more than the latency of a pair that is written, and 0 of one that is not
unfoldable pub chosen_cell : (cost latest earliest gap : ℕ) → ℕ
chosen_cell cost latest earliest zero = 0
chosen_cell cost latest earliest (suc gap) = cond (ltb earliest (suc gap + latest)) (suc gap - cost + 1) 0

-- the links from a job that are written, from its row of gaps
unfoldable pub chosen_row : (cost latest : ℕ) (earliest row : List ℕ) → List ℕ
chosen_row cost latest earliest row = map (λ j. chosen_cell cost latest (get_or earliest j 0) (get_or row j 0)) (count 0 48)

-- the square of the links that are written
unfoldable pub chosen : Jobs → Windows → Square → Square
chosen jobs w square = map (λ i. chosen_row (get_or jobs.cost i 0) (get_or w.latest i 0) w.earliest (get_or square i [])) (count 0 48)

-- a gap that makes a latency: it is at least its from job's cost
abbrev pub Writable : ℕ → ℕ → Type 0
Writable cost gap = (gap ≤ 48000) × (0 < gap → cost ≤ gap)

-- the link that a cell of such a square holds
unfoldable pub link_of : ℕ → ℕ → ℕ → List Link
link_of i j zero = []
link_of i j (suc latency) = link i j latency ∷ []

-- the links from job i, by to
unfoldable pub row_links : Square → ℕ → List Link
row_links links i = flat (λ j. link_of i j (cell links i j)) (count 0 48)

-- all links, by from and then to
unfoldable pub links_in : Square → List Link
links_in links = flat (row_links links) (count 0 48)
