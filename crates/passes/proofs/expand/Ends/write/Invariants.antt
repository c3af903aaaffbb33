-- `passes::expand::Ends::write` meets its contract. The loop's invariant: writing the links of the instances that are left gives what writing all of them gives.
-- Assumes nothing.
use Prim.Native.Nat.{◌+◌}
use mathlib.Core.Path.{◌≡◌}
use mathlib.Core.List.{map}
use lib.ListN.{length}
use Rattle.records.specs.Record.{job_bytes}
use Rattle.records.specs.declared.JobRecord.TheVariants.{L}
use Rattle.records.proofs.Writing.{written}
use Rattle.passes.specs.Ends.{matched_links}
use Rattle.passes.proofs.Matches.{matched_from}
use Rattle.passes.proofs.expand.Ends.write.Given as goal

abbrev pub invariant-loop-before : goal.invariant-loop-before
invariant-loop-before l =
    (length l.out ≡ length l.initial.out)
    × (l.place + length (matched_links l.self l.latency) ≡ l.next + length (matched_from l.self l.latency l.before))
    × (written job_bytes l.out l.next (map L (matched_from l.self l.latency l.before)) ≡ written job_bytes l.initial.out l.place (map L (matched_links l.self l.latency)))
