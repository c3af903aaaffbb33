-- `passes::expand::write_jobs` meets its contract. The loop's invariant: writing the jobs of the passes from `number` on gives what writing those of all gives.
-- Assumes nothing.
use Prim.Native.Nat.{◌+◌}
use mathlib.Core.Path.{◌≡◌}
use mathlib.Core.List.{map}
use lib.ListN.{length}
use Rattle.records.specs.Record.{job_bytes}
use Rattle.records.specs.Table.{encode}
use Rattle.records.specs.Outcome.{overwrite}
use Rattle.records.specs.declared.JobRecord.TheVariants.{J}
use Rattle.records.proofs.Writing.{written}
use Rattle.passes.specs.Expand.{jobs_from, job_count}
use Rattle.passes.specs.Timely.{in_order}
use Rattle.passes.proofs.Numbers.{passes_from}
use Rattle.passes.proofs.expand.write_jobs.Given as goal

abbrev pub invariant-loop-number : goal.invariant-loop-number
invariant-loop-number l =
    (length l.out ≡ length l.initial.out)
    × (job_count l.plan.cycle (in_order l.plan.passes) ≡ l.first + job_count l.plan.cycle (passes_from l.plan.passes l.number))
    × (written job_bytes l.out l.first (map J (jobs_from l.plan.cycle l.first (passes_from l.plan.passes l.number))) ≡ overwrite (encode job_bytes (map J (jobs_from l.plan.cycle 0 (in_order l.plan.passes)))) l.initial.out)
