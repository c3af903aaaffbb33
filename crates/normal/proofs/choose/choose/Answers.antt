-- `normal::choose::choose` meets its contract. The loop's invariant: the rows before i are filled in. Assumes nothing.
use mathlib.Core.Path.{◌≡◌}
use mathlib.Core.List.{[]}
use native.Mathlib.Omega.{arith}
use borrow.Author.Rules.{rules}
use Rattle.laws.proofs.Filling.{filled_more, filled_all}
use Rattle.normal.specs.Chosen.{chosen}
use Rattle.normal.proofs.choose.choose.Goals as goal

pub loop-i-preserved : goal.loop-i-preserved
loop-i-preserved c = (search rules, filled_more [] _ c.loop-i.i c.loop-i.links c.loop-i.invariant.1 (omega arith) c.choose_row.ensures)

pub returns : goal.returns
unfolding chosen
returns c =
    let end : c.loop-i.i ≡ 48 = omega arith in
    filled_all [] _ 48 _ c.loop-i.invariant.0 (rw end at c.loop-i.invariant.1)
