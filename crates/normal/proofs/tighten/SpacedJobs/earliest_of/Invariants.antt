-- `normal::tighten::SpacedJobs::earliest_of` meets its contract. The loop's invariant: the earliest start is the later of the time at hand and of what the jobs from i on ask. Assumes nothing.
use Prim.Native.Nat.{◌<◌}
use Rattle.normal.proofs.EarliestLoop.{EarliestFrom}
use Rattle.normal.proofs.tighten.SpacedJobs.earliest_of.Given as goal

abbrev pub invariant-loop-i : goal.invariant-loop-i
invariant-loop-i l = (l.earliest < 131072) × EarliestFrom l.self.jobs.now l.self.square.now l.j l.i l.earliest
