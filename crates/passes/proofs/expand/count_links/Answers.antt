-- `passes::expand::count_links` meets its contract. The loop's invariant: the links counted and those of the records from the place on are all links. Assumes nothing.
use Prim.Native.Nat.{◌+◌}
use native.Mathlib.Nat.{zero-add}
use native.Mathlib.Omega.{arith}
use mathlib.Core.Path.{sym, ap, ◌∙◌}
use lib.ListN.{length}
use borrow.Author.Rules.{rules}
use Rattle.laws.proofs.Walking.{next_at, next_member}
use Rattle.laws.proofs.Gathering.{tally_more, tally_end}
use Rattle.records.specs.Record.{in_passes}
use Rattle.records.proofs.Reading.{length_decode}
use Rattle.passes.specs.Call.{pass_table}
use Rattle.passes.specs.Ends.{record_links}
use Rattle.passes.proofs.Accepted.{whole_table, flow_within, all_links}
use Rattle.passes.proofs.expand.count_links.Goals as goal

pub loop-place-init : goal.loop-place-init
loop-place-init c =
    let accepted = c.args.accepted.now in
    (search rules, ap length (all_links accepted.judged.table.bytes.now accepted.accepted) ∙ sym (zero-add _))

pub count_record-links-requires : goal.count_record-links-requires
unfolding pass_table
count_record-links-requires c =
    let accepted = c.args.accepted.now in
    let table = pass_table accepted.judged.table.bytes.now in
    flow_within accepted.judged.table.bytes.now accepted.accepted c.at.result (next_member table c.loop-place.place (next_at table c.loop-place.place c.at.ensures))

pub overflow_add-links : goal.overflow_add-links
overflow_add-links c =
    let table = c.args.accepted.now.judged.table in
    let long = length_decode in_passes table.bytes.now table.count table.whole.size table.whole.readable in
    omega (arith, whole_table table.bytes.now c.args.accepted.now.accepted, table.whole.size, long, c.count-place-end.ensures, c.loop-place-test.true, c.loop-place.invariant.0, c.count_record-links.ensures.1)

pub loop-place-preserved : goal.loop-place-preserved
unfolding pass_table
loop-place-preserved c =
    let accepted = c.args.accepted.now in
    let table = pass_table accepted.judged.table.bytes.now in
    let i = c.loop-place.place in (
      search rules,
      tally_more (record_links accepted.plan.passes accepted.plan.cycle) table i c.loop-place.links (next_at table i c.at.ensures) (ap (λ k. c.loop-place.links + k) c.count_record-links.ensures.0) c.loop-place.invariant.1,
    )

pub returns : goal.returns
unfolding pass_table
returns c =
    let accepted = c.args.accepted.now in
    let table = pass_table accepted.judged.table.bytes.now in
    tally_end (record_links accepted.plan.passes accepted.plan.cycle) table c.loop-place.place c.loop-place.links (omega (arith, c.count-place-end.ensures, c.loop-place-test.false)) c.loop-place.invariant.1
