-- `passes::expand::write_record` meets its contract: a flow's links are written, and a pass has none. Assumes nothing.
use Rattle.records.proofs.Codec.{jobs}
use Rattle.records.proofs.Writing.{written_none}
use Rattle.passes.proofs.Matches.{flow_fits, pass_links}
use Rattle.passes.proofs.expand.write_record.Goals as goal

pub ends_of-requires : goal.ends_of-requires
ends_of-requires c = flow_fits c.args.plan.now.passes c.args.plan.now.cycle c.in-F.is c.requires.fits

pub returns-in-P-clause-out_after : goal.returns-in-P-clause-out_after
returns-in-P-clause-out_after c = rw (pass_links c.args.plan.now.passes c.args.plan.now.cycle c.in-P.is) (written_none jobs c.args.out.now c.args.place)
