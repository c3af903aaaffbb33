-- `normal::write::write_links` meets its contract. The loop's invariant: the links from the jobs from i on are left to be written. Assumes nothing.
use Rattle.normal.proofs.WriteLoops.{LinksLeft}
use Rattle.normal.proofs.write.write_links.Given as goal

abbrev pub invariant-loop-i : goal.invariant-loop-i
invariant-loop-i l = LinksLeft l.links l.initial.out l.i l.out l.place
