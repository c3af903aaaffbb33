-- `passes::expand::count_record` meets its contract: a flow's links are counted, and a pass has none. Assumes nothing.
use mathlib.Core.Path.{sym, ap, ◌∙◌}
use lib.ListN.{length}
use Rattle.passes.specs.Ends.{matched_links}
use Rattle.passes.proofs.Matches.{flow_fits, flow_links_lem, pass_links}
use borrow.Author.Rules.{rules}
use Rattle.passes.proofs.expand.count_record.Goals as goal

pub ends_of-requires : goal.ends_of-requires
ends_of-requires c = flow_fits c.args.plan.now.passes c.args.plan.now.cycle c.in-F.is c.requires

pub returns-in-P : goal.returns-in-P
returns-in-P c =
    let plan = c.args.plan.now in
    (sym (ap length (pass_links plan.passes plan.cycle c.in-P.is)), search rules)

pub returns-in-F : goal.returns-in-F
returns-in-F c =
    let plan = c.args.plan.now in
    let f = c.in-F.f in (
      c.count.ensures.by_index f.latency ∙ ap (λ e. length (matched_links e f.latency)) c.ends_of.ensures ∙ sym (ap length (flow_links_lem plan.passes plan.cycle c.in-F.is)),
      c.count.ensures.upper_bound,
    )
