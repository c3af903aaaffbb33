-- `passes::cycle::Plan::first_job` meets its contract: the instances of the passes of lower number are summed. Assumes nothing.
use native.Mathlib.Omega.{arith}
use mathlib.Core.Path.{◌∙◌}
use Rattle.std.proofs.Common.{rules, tests}
use Rattle.std.proofs.lemmas.Iterator.{YieldsList-from_range, YieldsList-from_map}
use Rattle.std.proofs.lemmas.Iterator.Adapters.{fits_from_length, at_most_from_yields_List}
use Rattle.std.proofs.lemmas.Iterator.Consumers.{sum_from_yields_List}
use Rattle.std.proofs.lemmas.List.FromFn.{length-range_with_len}
use Rattle.passes.specs.Expand.{job_count}
use Rattle.passes.specs.Timely.{passes_at}
use Rattle.passes.proofs.First.{first_summed}
use Rattle.passes.proofs.cycle.Plan.first_job.Goals as goal

pub sum-requires-clause-fits : goal.sum-requires-clause-fits
sum-requires-clause-fits c =
    fits_from_length _ _ 24 _ (at_most_from_yields_List (YieldsList-from_range 0 c.args.number c.args.number (cc) (omega arith)) (omega (arith, length-range_with_len 0 c.args.number))) c.map.ensures.closure (omega arith) (λ x r q k. search (rules, tests))

pub returns : goal.returns
returns c =
    let plan = c.args.self.now in
    sum_from_yields_List _ c.sum.result c.sum.ensures.ran
    (YieldsList-from_map _ (λ lower. job_count plan.cycle (passes_at plan.passes lower)) (YieldsList-from_range 0 c.args.number c.args.number (cc) (omega arith)) c.map.ensures.closure (λ x r q k. search (rules, tests)))
    ∙ first_summed plan.passes plan.cycle c.args.number c.requires
