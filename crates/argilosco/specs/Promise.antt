-- What each public call promises of its answer and of the output it was lent: `before` is the output as the call found it, `after` as it left it.
use Rattle.std.specs.Prelude.{ℕ, ◌≡◌, List, length}
use Rattle.records.specs.Outcome.{Outcome, overwrite}
use Rattle.passes.specs.Call.{expand}
use Rattle.normal.specs.Call.{normalise}
use Rattle.search.specs.Call.{scheduled}
use Rattle.argilosco.specs.declared.Written.{Written}
use Rattle.argilosco.specs.declared.Scheduled.{Scheduled}

-- number, bytes written and every byte of the output are those of an outcome
pub record Keeps (outcome : Outcome) (before : List ℕ) (answer : Written) (after : List ℕ) : Type 0 where
  pub number : answer.number ≡ outcome.number
  pub written : answer.written ≡ length outcome.bytes
  pub output : after ≡ overwrite outcome.bytes before

-- what expanding a pass table promises
abbrev pub ExpandPromise : List ℕ → List ℕ → Written → List ℕ → Type 0
ExpandPromise passes before answer after = Keeps (expand passes (length before)) before answer after

-- what normalising a job table promises
abbrev pub NormalisePromise : List ℕ → List ℕ → Written → List ℕ → Type 0
NormalisePromise jobs before answer after = Keeps (normalise jobs (length before)) before answer after

-- the same of an answer with openings
pub record KeepsOpenings (outcome : Outcome) (before : List ℕ) (answer : Scheduled) (after : List ℕ) : Type 0 where
  pub number : answer.number ≡ outcome.number
  pub written : answer.written ≡ length outcome.bytes
  pub openings : answer.openings ≡ outcome.openings
  pub output : after ≡ overwrite outcome.bytes before

-- what scheduling a job table under a budget promises
abbrev pub SchedulePromise : List ℕ → ℕ → List ℕ → Scheduled → List ℕ → Type 0
SchedulePromise jobs budget before answer after = KeepsOpenings (scheduled jobs budget (length before)) before answer after
