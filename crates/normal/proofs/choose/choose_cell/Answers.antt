-- `normal::choose::choose_cell` meets its contract: the tests pick the case of `chosen_cell`. Assumes nothing.
use mathlib.Core.Path.{sym}
use native.Mathlib.Omega.{arith}
use Rattle.normal.proofs.ChosenLaws.{chosen_none, chosen_over, chosen_under}
use Rattle.normal.proofs.choose.choose_cell.Goals as goal
use Rattle.normal.proofs.choose.choose_cell.Goals.{else-gap-ne0-via-then-gap-ne0+else-from-gap, else-gap-ne0-via-else-gap-ne0}

pub returns-then-from-gap : goal.returns-then-from-gap
returns-then-from-gap c = omega (arith, chosen_over c.args.cost c.args.latest c.args.earliest c.args.gap c.if-gap-ne0.true (omega arith))

pub returns-else-gap-ne0 : goal.returns-else-gap-ne0
returns-else-gap-ne0 c =
    elim c.else-gap-ne0.branch [
      | else-gap-ne0-via-then-gap-ne0+else-from-gap w ↦ sym (chosen_under _ _ _ _ w.if-gap-ne0.true (omega arith))
      | else-gap-ne0-via-else-gap-ne0 w ↦ sym (chosen_none _ _ _ _ w.if-gap-ne0.false)
    ]
