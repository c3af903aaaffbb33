-- `passes::judge::too_many_flows` meets its contract. The loop's invariant: the flows counted, at most 64, and those of the records from the place on are all flows. Assumes nothing.
use Prim.Native.Nat.{◌+◌, ◌≤◌}
use mathlib.Core.Path.{◌≡◌}
use lib.ListN.{length, drop}
use Rattle.laws.specs.Lists.{flat}
use Rattle.passes.specs.Expand.{flows_of}
use Rattle.passes.specs.Call.{pass_table}
use Rattle.passes.proofs.Flows.{flow_in}
use Rattle.passes.proofs.judge.too_many_flows.Given as goal

abbrev pub invariant-loop-place : goal.invariant-loop-place
invariant-loop-place l =
    let table = pass_table l.judged.table.bytes.now in
    (l.flows ≤ 64) × (length (flows_of table) ≡ l.flows + length (flat flow_in (drop l.place table)))
