-- `passes::expand::write_pass` meets its contract: the instances written are the pass's jobs. Assumes nothing.
use Rattle.passes.proofs.Instances.{pass_jobs}
use Rattle.passes.proofs.expand.write_pass.Goals as goal

pub returns-clause-out_after : goal.returns-clause-out_after
returns-clause-out_after c =
    pass_jobs c.args.plan.now.passes c.args.number c.args.plan.now.cycle c.args.first c.in-Some.is c.instances_of-times.ensures.0 c.args.out.now c.write_instances.ensures
