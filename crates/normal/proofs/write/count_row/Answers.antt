-- `normal::write::count_row` meets its contract. The loop's invariant: the links counted are those of the cells so far. Assumes nothing.
use mathlib.Core.Path.{sym, ap, ◌∙◌}
use mathlib.Core.Bool.{not}
use native.Mathlib.Omega.{arith}
use lib.Dec.{eqb}
use lib.Seq.{take_all}
use Rattle.std.specs.List.{count_by}
use Rattle.normal.proofs.Counts.{places_counted}
use Rattle.normal.proofs.write.count_row.Goals as goal

pub returns-clause-value : goal.returns-clause-value
returns-clause-value c =
    let row = c.args.row.now in
    c.loop-cell.invariant ∙ ap (count_by (λ n. not (eqb n 0))) (take_all c.loop-cell.cell-index row (omega arith)) ∙ sym (places_counted (λ n. not (eqb n 0)) row 0 (omega arith))
