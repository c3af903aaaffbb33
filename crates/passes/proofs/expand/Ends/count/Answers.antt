-- `passes::expand::Ends::count` meets its contract: the instances that match are counted, and each has one link. Assumes nothing.
use Prim.Native.Nat.{◌+◌}
use native.Mathlib.Omega.{arith}
use mathlib.Core.Path.{◌≡◌, ap, ◌∙◌}
use Rattle.std.proofs.Common.{rules, tests}
use Rattle.std.proofs.lemmas.Iterator.{YieldsList-from_range}
use Rattle.std.proofs.lemmas.Iterator.Consumers.{YieldsList-from_filter, count_from_yields_List}
use Rattle.passes.specs.Ends.{matches}
use Rattle.passes.proofs.Matches.{matches_counted}
use Rattle.passes.proofs.expand.Ends.count.Goals as goal

pub returns-clause-by_index : goal.returns-clause-by_index
returns-clause-by_index c = λ latency.
    let end : c.self.inside.instances ≡ c.args.self.now.instances = ap (λ e. e.instances) c.self.view_is in
    count_from_yields_List _ c.count.result c.count.ensures.ran
    (YieldsList-from_filter _ (λ before. matches c.args.self.now (before + 1)) (YieldsList-from_range 0 c.self.inside.instances c.args.self.now.instances (cc) (omega arith)) c.filter.ensures.closure
    (λ x b q k. search (rules, tests))) ∙ matches_counted c.args.self.now latency
