-- `passes::expand::write_links` meets its contract. The loop's invariant: writing the links of the records from the place on gives what writing those of all gives.
-- Assumes nothing.
use Prim.Native.Nat.{◌+◌}
use mathlib.Core.Path.{◌≡◌}
use mathlib.Core.List.{map}
use lib.ListN.{length, drop}
use Rattle.laws.specs.Lists.{flat}
use Rattle.records.specs.Record.{job_bytes}
use Rattle.records.specs.Table.{encode}
use Rattle.records.specs.Outcome.{overwrite}
use Rattle.records.specs.declared.JobRecord.TheVariants.{L}
use Rattle.records.proofs.Writing.{written}
use Rattle.passes.specs.Expand.{flow_links, flows_of}
use Rattle.passes.specs.Call.{pass_table}
use Rattle.passes.specs.Ends.{record_links}
use Rattle.passes.proofs.expand.write_links.Given as goal

abbrev pub invariant-loop-place : goal.invariant-loop-place
invariant-loop-place l =
    let plan = l.accepted.plan in
    let table = pass_table l.accepted.judged.table.bytes.now in
    let all = flat (flow_links table plan.cycle) (flows_of table) in
    let left = flat (record_links plan.passes plan.cycle) (drop l.place table) in
    (length l.out ≡ length l.initial.out)
    × (length all ≡ l.next + length left)
    × (written job_bytes l.out l.next (map L left) ≡ overwrite (encode job_bytes (map L all)) l.initial.out)
