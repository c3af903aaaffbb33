-- `tables::judge::is_given` meets its contract: the mark of a number says whether the table gives it. Assumes nothing.
use mathlib.Core.Path.{ap₂, ◌∙◌}
use mathlib.Core.Bool.{Bool, false}
use mathlib.Core.List.{List}
use native.Mathlib.Omega.{arith}
use Rattle.std.specs.Prelude.{ℕ}
use lib.ListN.{get_or}
use Rattle.tables.proofs.Marks.{marked}
use Rattle.tables.proofs.judge.is_given.Goals as goal

pub returns : goal.returns
returns g c table is =
    ap₂ (λ (marks : List Bool) (n : ℕ). get_or marks n false) is c.from.ensures ∙ marked g.R.Kind.rules table c.args.number (omega arith)
