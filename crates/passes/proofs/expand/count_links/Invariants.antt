-- `passes::expand::count_links` meets its contract. The loop's invariant: the links counted and those of the records from the place on are all links.
-- Assumes nothing.
use Prim.Native.Nat.{◌+◌, ◌*◌, ◌≤◌}
use mathlib.Core.Path.{◌≡◌}
use lib.ListN.{length, drop}
use Rattle.laws.specs.Lists.{flat}
use Rattle.passes.specs.Expand.{flow_links, flows_of}
use Rattle.passes.specs.Call.{pass_table}
use Rattle.passes.specs.Ends.{record_links}
use Rattle.passes.proofs.expand.count_links.Given as goal

abbrev pub invariant-loop-place : goal.invariant-loop-place
invariant-loop-place l =
    let plan = l.accepted.plan in
    let table = pass_table l.accepted.judged.table.bytes.now in
    (l.links ≤ 48 * l.place)
    × (length (flat (flow_links table plan.cycle) (flows_of table)) ≡ l.links + length (flat (record_links plan.passes plan.cycle) (drop l.place table)))
