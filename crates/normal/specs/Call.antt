-- What normalising a table comes to: "Normalising gives 0 to 5 and 7 to 9".
use Rattle.std.specs.Prelude.{ℕ, List, length, ltb}
use Rattle.records.specs.Record.{job_bytes}
use Rattle.records.specs.Table.{encode}
use Rattle.records.specs.Outcome.{Outcome, refuse, done, unless_refused}
use Rattle.records.specs.declared.JobRecord.{JobRecord}
use Rattle.jobs.specs.Call.{job_table, jobs_number}
use Rattle.normal.specs.Gaps.{gaps, ring_in}
use Rattle.normal.specs.Windows.{no_starts}
use Rattle.normal.specs.Normal.{normal_form}

-- the lower of 7 and 8 that holds of a table's records, else what comes after
unfoldable pub starts_number : List JobRecord → ℕ → ℕ
starts_number table later = refuse 7 (ring_in (gaps table)) (refuse 8 (no_starts table (gaps table)) later)

-- the bytes of the normal form
unfoldable pub normal_bytes : List ℕ → List ℕ
normal_bytes bytes = encode job_bytes (normal_form (job_table bytes))

-- 9: "output too short": "The room needed is exactly the records' length"
unfoldable pub normalise_number : List ℕ → ℕ → ℕ
normalise_number bytes room =
    jobs_number bytes (starts_number (job_table bytes) (refuse 9 (ltb room (length (normal_bytes bytes))) 0))

-- normalising the table into an output of so much room
unfoldable pub normalise : List ℕ → ℕ → Outcome
normalise bytes room = unless_refused (normalise_number bytes room) (done 0 (normal_bytes bytes))
