-- `normal::write::write_links` meets its contract. The loop's invariant: the links from the jobs from i on are left to be written. Assumes nothing.
use borrow.Author.Rules.{rules}
use Rattle.normal.proofs.WriteLoops.{links_left_first, links_left_room, links_left_row, links_left_end}
use Rattle.normal.proofs.write.write_links.Goals as goal

pub loop-i-init : goal.loop-i-init
loop-i-init c = links_left_first _ _ c.requires

pub write_row-place-requires : goal.write_row-place-requires
write_row-place-requires c = (search rules, links_left_room _ _ _ _ _ c.loop-i-test.true c.loop-i.invariant)

pub loop-i-preserved : goal.loop-i-preserved
loop-i-preserved c = links_left_row _ _ c.loop-i.i _ _ c.loop-i-test.true c.loop-i.invariant _ _ c.write_row-place.ensures.value c.write_row-place.ensures.out_after

pub returns : goal.returns
returns c = links_left_end _ _ c.loop-i.i _ _ c.loop-i-test.false c.loop-i.invariant
