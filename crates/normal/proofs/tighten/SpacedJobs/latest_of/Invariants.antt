-- `normal::tighten::SpacedJobs::latest_of` meets its contract. The loop's invariant: the latest start is the earlier of the time at hand and of what the jobs from k on ask. Assumes nothing.
use Rattle.normal.proofs.LatestLoop.{LatestFrom}
use Rattle.normal.proofs.tighten.SpacedJobs.latest_of.Given as goal

abbrev pub invariant-loop-k : goal.invariant-loop-k
invariant-loop-k l = LatestFrom l.self.jobs.now l.self.square.now l.j l.k l.latest
