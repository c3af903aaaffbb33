-- `normal::tighten::SpacedJobs::last_start` meets its contract: the arrays hold the table's cost and deadline. Assumes nothing.
use Prim.Native.Nat.{◌-◌}
use mathlib.Core.Path.{ap₂, ◌∙◌}
use Rattle.normal.specs.Windows.{last_start}
use Rattle.normal.proofs.NumbersFrom.{cost_of, deadline_of}
use Rattle.normal.proofs.tighten.SpacedJobs.last_start.Goals as goal

pub returns : goal.returns
unfolding last_start
returns c table same = c.saturating_sub.ensures ∙ ap₂ ◌-◌ (deadline_of table same c.args.j c.requires) (cost_of table same c.args.j c.requires)
