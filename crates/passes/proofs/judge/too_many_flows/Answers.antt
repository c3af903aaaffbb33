-- `passes::judge::too_many_flows` meets its contract. The loop's invariant: the flows counted, at most 64, and those of the records from the place on are all flows. Assumes nothing.
use Prim.Native.Nat.{◌+◌}
use native.Mathlib.Nat.{zero-add}
use native.Mathlib.Omega.{arith}
use mathlib.Core.Path.{sym, ap, ◌∙◌}
use lib.ListN.{length}
use borrow.Author.Tests.{lt-ltb, le-ltb}
use Rattle.laws.proofs.Gathering.{tally_more, tally_end}
use Rattle.laws.proofs.Walking.{next_at}
use Rattle.passes.specs.Expand.{flows_of}
use Rattle.passes.specs.Call.{pass_table}
use Rattle.passes.proofs.Flows.{flows_each, flow_in}
use Rattle.passes.proofs.judge.too_many_flows.Goals as goal

pub loop-place-init : goal.loop-place-init
loop-place-init c = (omega arith, ap length (flows_each (pass_table c.args.judged.now.table.bytes.now)) ∙ sym (zero-add _))

pub returns-then-flows-gt64 : goal.returns-then-flows-gt64
unfolding pass_table
returns-then-flows-gt64 c =
    let table = pass_table c.args.judged.now.table.bytes.now in
    let more = tally_more flow_in table c.loop-place.place c.loop-place.flows (next_at table c.loop-place.place c.at.ensures) (ap (λ k. c.loop-place.flows + k) c.one_flow-flows.ensures.0) c.loop-place.invariant.1 in
    sym (lt-ltb 64 (length (flows_of table)) (omega (arith, more, c.if-flows-gt64.true)))

pub loop-place-preserved : goal.loop-place-preserved
unfolding pass_table
loop-place-preserved c =
    let table = pass_table c.args.judged.now.table.bytes.now in (
      omega (arith, c.if-flows-gt64.false),
      tally_more flow_in table c.loop-place.place c.loop-place.flows (next_at table c.loop-place.place c.at.ensures) (ap (λ k. c.loop-place.flows + k) c.one_flow-flows.ensures.0) c.loop-place.invariant.1,
    )

pub returns : goal.returns
unfolding pass_table
returns c =
    let table = pass_table c.args.judged.now.table.bytes.now in
    let all = tally_end flow_in table c.loop-place.place c.loop-place.flows (omega (arith, c.count-place-end.ensures, c.loop-place-test.false)) c.loop-place.invariant.1 in
    sym (le-ltb 64 (length (flows_of table)) (omega (arith, all, c.loop-place.invariant.0)))
