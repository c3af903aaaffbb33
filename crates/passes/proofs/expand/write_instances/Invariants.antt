-- `passes::expand::write_instances` meets its contract. The loop's invariant: writing the instances that are left gives what writing all of them gives.
-- Assumes nothing.
use Prim.Native.Nat.{◌+◌}
use mathlib.Core.Path.{◌≡◌}
use mathlib.Core.List.{map}
use lib.ListN.{length}
use Rattle.laws.specs.Lists.{count}
use Rattle.records.specs.Record.{job_bytes}
use Rattle.records.specs.declared.JobRecord.TheVariants.{J}
use Rattle.records.proofs.Writing.{written}
use Rattle.passes.specs.Expand.{instance_of}
use Rattle.passes.proofs.Instances.{instances_from}
use Rattle.passes.proofs.expand.write_instances.Given as goal

abbrev pub invariant-loop-before : goal.invariant-loop-before
invariant-loop-before l =
    (length l.out ≡ length l.initial.out)
    × (written job_bytes l.out (l.first + l.before) (instances_from l.pass l.first l.before l.times) ≡ written job_bytes l.initial.out l.first (map J (map (instance_of l.pass l.first) (count 1 l.times))))
