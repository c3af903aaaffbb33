-- A table's jobs and links as the code holds them: arrays by job number, and a square of the strongest links.
use Rattle.std.specs.Prelude.{ℕ, List, map}
use Rattle.laws.specs.Lists.{any, count}
use Rattle.records.specs.declared.JobRecord.{JobRecord}
use Rattle.jobs.specs.Judge.{is_job}
use Rattle.jobs.specs.Jobs.{cost, release, deadline, strongest}
use Rattle.jobs.specs.declared.Jobs.{Jobs}

-- the jobs by number: 0 where there is none
unfoldable pub jobs_of : List JobRecord → Jobs
jobs_of table = record {
  present = map (λ n. any (is_job n) table) (count 0 48);
  cost = map (cost table) (count 0 48);
  release = map (release table) (count 0 48);
  deadline = map (deadline table) (count 0 48);
}

-- the square of the strongest links: one more than the latency, 0 where there is none
unfoldable pub links_of : List JobRecord → List (List ℕ)
links_of table = map (λ i. map (strongest table i) (count 0 48)) (count 0 48)
