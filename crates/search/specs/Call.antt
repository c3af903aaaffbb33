-- What scheduling a table comes to: "Scheduling gives 0 to 5 and 7 to 11".
use Rattle.std.specs.Prelude.{ℕ, ◌*◌, true, false, List, reverse, length, ltb, Option, None, Some}
use Rattle.records.specs.Record.{slot_bytes}
use Rattle.records.specs.Table.{encode}
use Rattle.records.specs.Outcome.{Outcome, refuse, done, refused, unless_refused}
use Rattle.records.specs.declared.JobRecord.{JobRecord}
use Rattle.jobs.specs.Jobs.{numbers}
use Rattle.jobs.specs.Call.{job_table, jobs_number}
use Rattle.normal.specs.Call.{starts_number}
use Rattle.normal.specs.Normal.{normal_form}
use Rattle.search.specs.Run.{run}
use Rattle.search.specs.Tree.{schedule, openings}

-- 9: "output too short": a slot for every job, "checked before any search"
unfoldable pub schedule_number : List ℕ → ℕ → ℕ
schedule_number bytes room =
    jobs_number bytes (starts_number (job_table bytes) (refuse 9 (ltb room (12 * length (numbers (job_table bytes)))) 0))

-- "S records in running order"
unfoldable pub slots_bytes : List JobRecord → List ℕ → List ℕ
slots_bytes table q = encode slot_bytes (reverse (run table q))

-- "10 when no schedule exists, otherwise 0", with the count of openings
unfoldable pub decided : List JobRecord → Option (List ℕ) → ℕ → Outcome
decided table None opened = refused 10 opened
decided table (Some q) opened = done opened (slots_bytes table q)

-- "the search decides: 11 when its openings would exceed the budget", and then the openings given are the budget
unfoldable pub searched : List JobRecord → ℕ → Outcome
searched table budget =
    elim (ltb budget (openings table)) [ true ↦ refused 11 budget | false ↦ decided table (schedule table) (openings table) ]

-- scheduling the table under a budget into an output of so much room
unfoldable pub scheduled : List ℕ → ℕ → ℕ → Outcome
scheduled bytes budget room =
    unless_refused (schedule_number bytes room) (searched (normal_form (job_table bytes)) budget)
