-- What the calls answer inside, where a refusal is an error, and the answer that they give of it.
use Rattle.std.specs.Prelude.{ℕ, ◌≡◌, List, length, Result, Ok, Err, MatchResult}
use Rattle.records.specs.Outcome.{Outcome, refused, overwrite, number_of}
use Rattle.records.specs.declared.refusal.Refusal.{Refusal}
use Rattle.jobs.specs.Call.{job_table, jobs_number}
use Rattle.jobs.specs.declared.Jobs.{Jobs}
use Rattle.normal.specs.Call.{starts_number}
use Rattle.normal.specs.Arrays.{Holds}
use Rattle.argilosco.specs.Promise.{KeepsOpenings}
use Rattle.argilosco.specs.declared.Written.{Written}
use Rattle.argilosco.specs.declared.Scheduled.{Scheduled}

-- "Done": 0 and the bytes written; "Refused: bytes written 0"
abbrev pub written_of : Result ℕ Refusal → Written
written_of (Ok written) = record { number = 0; written = written }
written_of (Err refusal) = record { number = number_of refusal; written = 0 }

-- the same of scheduling: "openings 0 save at 10 and 11", which the search answers
abbrev pub schedule_of : Result Scheduled Refusal → Scheduled
schedule_of (Ok answer) = answer
schedule_of (Err refusal) = record { number = number_of refusal; written = 0; openings = 0 }

-- a call that has written an outcome's bytes, or is refused as it is
abbrev pub Writes : Outcome → List ℕ → Result ℕ Refusal → List ℕ → Type 0
Writes outcome before result after =
    MatchResult result
    (λ written. (outcome.number ≡ 0) × (written ≡ length outcome.bytes) × (after ≡ overwrite outcome.bytes before))
    (λ refusal. (outcome ≡ refused (number_of refusal) 0) × (after ≡ before))

-- a call that answers as an outcome's search does, or is refused as it is
abbrev pub Schedules : Outcome → List ℕ → Result Scheduled Refusal → List ℕ → Type 0
Schedules outcome before result after =
    MatchResult result
    (λ answer. KeepsOpenings outcome before answer after)
    (λ refusal. (outcome ≡ refused (number_of refusal) 0) × (after ≡ before))

-- "the lowest that holds anywhere is given": that of 1 to 5, 7 and 8, else what is judged after them
abbrev pub number_held : List ℕ → ℕ → ℕ
number_held bytes later = jobs_number bytes (starts_number (job_table bytes) later)

-- a job table held as its jobs and the square of their gaps, where none of those numbers holds of it, or refused by the one that does
abbrev pub HeldAs : List ℕ → Result Jobs Refusal → List (List ℕ) → Type 0
HeldAs bytes result square =
    MatchResult result
    (λ jobs. Holds (job_table bytes) jobs square × ((later : ℕ) → number_held bytes later ≡ later))
    (λ refusal. (later : ℕ) → number_held bytes later ≡ number_of refusal)
