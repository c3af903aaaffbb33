-- `tables::judge::give` meets its contract: a record that gives a number sets its mark. Assumes nothing.
use mathlib.Core.Path.{ap₂, ◌∙◌}
use mathlib.Core.Bool.{Bool, true}
use mathlib.Core.List.{List}
use native.Mathlib.Omega.{arith}
use Rattle.std.specs.Prelude.{ℕ}
use lib.ListN.{set}
use Rattle.tables.proofs.Marks.{marks_more}
use Rattle.tables.proofs.judge.give.Goals as goal

pub returns : goal.returns
returns g c r before gives is =
    ap₂ (λ (marks : List Bool) (n : ℕ). set marks n true) is c.from.ensures ∙ marks_more g.R.Kind.rules r before c.args.number gives (omega arith)
