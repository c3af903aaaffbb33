-- `normal::write::write_jobs` meets its contract. The loop's invariant: the jobs from n on are left to be written. Assumes nothing.
use Rattle.normal.proofs.WriteLoops.{JobsLeft}
use Rattle.normal.proofs.write.write_jobs.Given as goal

abbrev pub invariant-loop-n : goal.invariant-loop-n
invariant-loop-n l = JobsLeft l.jobs l.windows l.initial.out l.n l.out l.place
