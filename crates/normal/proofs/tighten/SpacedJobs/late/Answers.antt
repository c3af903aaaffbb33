-- `normal::tighten::SpacedJobs::late` meets its contract: the arrays hold the table's cost and deadline. Assumes nothing.
use Prim.Native.Nat.{◌+◌}
use mathlib.Core.Path.{ap₂, ◌∙◌}
use lib.Dec.{ltb}
use Rattle.normal.proofs.NumbersFrom.{cost_of, deadline_of}
use Rattle.normal.proofs.tighten.SpacedJobs.late.Goals as goal

pub returns : goal.returns
returns c table same =
    ap₂ ltb (c.from.ensures ∙ deadline_of table same c.args.j c.requires)
    (ap₂ ◌+◌ (c.earliest_of.ensures.value table same) (c.from-2.ensures ∙ cost_of table same c.args.j c.requires))
