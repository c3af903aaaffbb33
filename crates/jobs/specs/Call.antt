-- The refusals that normalising and scheduling share.
use Rattle.std.specs.Prelude.{ℕ, List}
use Rattle.laws.specs.Lists.{found}
use Rattle.records.specs.Record.{in_jobs}
use Rattle.records.specs.Table.{bad_length, read_all, unreadable, decode}
use Rattle.records.specs.Outcome.{refuse}
use Rattle.records.specs.declared.JobRecord.{JobRecord}
use Rattle.jobs.specs.Judge.{fault3, fault4, fault5}

-- the records of a job table
unfoldable pub job_table : List ℕ → List JobRecord
job_table bytes = decode in_jobs bytes

-- the lowest of 1 to 5 that holds of a job table, else what comes after
unfoldable pub jobs_number : List ℕ → ℕ → ℕ
jobs_number bytes later =
    refuse 1 (bad_length bytes)
    (refuse 2 (found (unreadable (read_all in_jobs bytes)))
    (refuse 3 (found (fault3 (job_table bytes)))
    (refuse 4 (found (fault4 (job_table bytes)))
    (refuse 5 (found (fault5 (job_table bytes))) later))))
