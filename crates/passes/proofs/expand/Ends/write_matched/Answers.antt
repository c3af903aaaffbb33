-- `passes::expand::Ends::write_matched` meets its contract: the job that its link names is numbered below 48. Assumes nothing.
use native.Mathlib.Omega.{arith}
use mathlib.Core.Path.{ap}
use Rattle.passes.proofs.Matches.{linked}
use Rattle.passes.proofs.expand.Ends.write_matched.Goals as goal

pub overflow_cast-link-2 : goal.overflow_cast-link-2
overflow_cast-link-2 c = omega (arith, linked _ c.self.invariant c.args.before (omega (arith, ap (λ e. e.instances) c.self.view_is)))
