-- `normal::form::turned` meets its contract. The loop's invariant: the rows before k are filled in. Assumes nothing.
use mathlib.Core.Path.{◌≡◌}
use mathlib.Core.List.{[]}
use native.Mathlib.Omega.{arith}
use borrow.Author.Rules.{rules}
use Rattle.laws.proofs.Filling.{filled_more, filled_all}
use Rattle.normal.proofs.form.turned.Goals as goal

pub loop-k-preserved : goal.loop-k-preserved
loop-k-preserved c = (search rules, filled_more [] _ c.loop-k.k c.loop-k.into c.loop-k.invariant.1 (omega arith) c.turned_row.ensures)

pub returns : goal.returns
returns c =
    let end : c.loop-k.k ≡ 48 = omega arith in
    filled_all [] _ 48 _ c.loop-k.invariant.0 (rw end at c.loop-k.invariant.1)
