-- `normal::write::write_row` meets its contract. The loop's invariant: the links to the jobs from j on are left to be written. Assumes nothing.
use Rattle.normal.proofs.WriteLoops.{RowLeft}
use Rattle.normal.proofs.write.write_row.Given as goal

abbrev pub invariant-loop-j : goal.invariant-loop-j
invariant-loop-j l = RowLeft l.links l.initial.out l.i l.first l.j l.out l.place
