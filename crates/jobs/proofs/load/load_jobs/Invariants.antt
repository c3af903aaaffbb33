-- `jobs::load::load_jobs` meets its contract. The loop's invariant: the arrays hold the jobs of the records passed. Assumes nothing.
use mathlib.Core.Path.{◌≡◌}
use Rattle.laws.proofs.Walking.{behind}
use Rattle.jobs.specs.Call.{job_table}
use Rattle.jobs.specs.Arrays.{jobs_of}
use Rattle.jobs.proofs.load.load_jobs.Given as goal

abbrev pub invariant-loop-place : goal.invariant-loop-place
invariant-loop-place l = l.jobs ≡ jobs_of (behind l.place (job_table l.judged.table.bytes.now))
