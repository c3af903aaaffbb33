-- `passes::expand::write_links` meets its contract. The loop's invariant: writing the links of the records from the place on gives what writing those of all gives. Assumes nothing.
use native.Mathlib.Nat.{zero-add}
use native.Mathlib.Omega.{arith}
use mathlib.Core.Path.{refl, sym, ap, ◌∙◌}
use mathlib.Core.List.{map}
use lib.ListN.{length}
use Rattle.laws.specs.Lists.{flat}
use Rattle.laws.proofs.Walking.{next_at, next_member}
use Rattle.laws.proofs.Gathering.{tally_more}
use Rattle.records.specs.Record.{job_bytes}
use Rattle.records.specs.declared.JobRecord.TheVariants.{L}
use Rattle.records.proofs.Codec.{jobs}
use Rattle.records.proofs.Writing.{written, written_first}
use Rattle.passes.specs.Expand.{flow_links, flows_of}
use Rattle.passes.specs.Call.{pass_table}
use Rattle.passes.specs.Ends.{record_links}
use Rattle.passes.proofs.Matches.{record_part, records_more, records_end}
use Rattle.passes.proofs.Accepted.{flow_within, all_links}
use Rattle.passes.proofs.expand.write_links.Goals as goal

pub loop-place-init : goal.loop-place-init
loop-place-init c =
    let accepted = c.args.accepted.now in
    let bytes = accepted.judged.table.bytes.now in
    let all = all_links bytes accepted.accepted in (
      refl,
      ap length all ∙ sym (zero-add _),
      ap (λ ls. written job_bytes c.args.out.now 0 (map L ls)) (sym all) ∙ written_first jobs c.args.out.now (map L (flat (flow_links (pass_table bytes) accepted.plan.cycle) (flows_of (pass_table bytes)))),
    )

pub write_record-next-requires : goal.write_record-next-requires
unfolding pass_table
write_record-next-requires c =
    let accepted = c.args.accepted.now in
    let table = pass_table accepted.judged.table.bytes.now in
    let here = next_at table c.loop-place.place c.at.ensures in
    let part = record_part accepted.plan.passes accepted.plan.cycle table c.loop-place.place here in record {
      fits = flow_within accepted.judged.table.bytes.now accepted.accepted c.at.result (next_member table c.loop-place.place here);
      room = omega (arith, part, c.loop-place.invariant, c.requires);
    }

pub loop-place-preserved : goal.loop-place-preserved
unfolding pass_table
loop-place-preserved c =
    let plan = c.args.accepted.now.plan in
    let table = pass_table c.args.accepted.now.judged.table.bytes.now in
    let turn = c.loop-place in
    let here = next_at table turn.place c.at.ensures in
    let wrote = c.write_record-next in
    let part = record_part plan.passes plan.cycle table turn.place here in (
      wrote.auto.out ∙ turn.invariant.0,
      tally_more (record_links plan.passes plan.cycle) table turn.place turn.next here wrote.ensures.value turn.invariant.1,
      records_more plan.passes plan.cycle table turn.place here turn.out turn.next wrote.result
          (omega (arith, part, turn.invariant, c.requires)) wrote.ensures.out_after wrote.ensures.value turn.invariant.2,
    )

pub returns : goal.returns
unfolding pass_table
returns c =
    let plan = c.args.accepted.now.plan in
    let table = pass_table c.args.accepted.now.judged.table.bytes.now in
    records_end plan.passes plan.cycle table c.loop-place.place c.loop-place.out c.loop-place.next (omega (arith, c.count-place-end.ensures, c.loop-place-test.false)) c.loop-place.invariant.2
