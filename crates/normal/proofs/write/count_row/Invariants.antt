-- `normal::write::count_row` meets its contract. The loop's invariant: the links counted are those of the cells so far. Assumes nothing.
use mathlib.Core.Path.{◌≡◌}
use mathlib.Core.Bool.{not}
use lib.Dec.{eqb}
use lib.ListN.{take}
use Rattle.std.specs.List.{count_by}
use Rattle.normal.proofs.write.count_row.Given as goal

abbrev pub invariant-loop-cell : goal.invariant-loop-cell
invariant-loop-cell l = l.count ≡ count_by (λ n. not (eqb n 0)) (take l.cell-index l.row)
