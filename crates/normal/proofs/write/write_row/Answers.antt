-- `normal::write::write_row` meets its contract. The loop's invariant: the links to the jobs from j on are left to be written. Assumes nothing.
use mathlib.Core.Path.{◌∙◌}
use Rattle.normal.proofs.WriteLoops.{row_left_first, row_left_room, row_left_link, row_left_none, row_left_place, row_left_end}
use Rattle.normal.proofs.write.write_row.Goals as goal
use Rattle.normal.proofs.write.write_row.Goals.{then-cell-ne0, else-cell-ne0}

pub loop-j-init : goal.loop-j-init
loop-j-init c = row_left_first _ _ _ _ c.requires.1

pub write-requires : goal.write-requires
write-requires c = row_left_room _ _ _ _ _ _ _ c.loop-j-test.true c.loop-j.invariant c.if-cell-ne0.true

pub loop-j-preserved : goal.loop-j-preserved
loop-j-preserved c =
    let a = c.args in
    let l = c.loop-j in
    elim c.if-cell-ne0.branch [
      | then-cell-ne0 w ↦ rw w.place-is (row_left_link a.links.now a.out.now a.i a.first l.j l.out l.place c.loop-j-test.true l.invariant c.if-cell-ne0.out w.if-cell-ne0.true (w.out-is ∙ w.write.ensures))
      | else-cell-ne0 w ↦ rw (w.out-is, w.place-is) (row_left_none a.links.now a.out.now a.i a.first l.j l.out l.place c.loop-j-test.true l.invariant w.if-cell-ne0.false)
    ]

pub returns : goal.returns
returns c =
    let l = c.loop-j in record {
      value = row_left_place _ _ _ _ l.j _ _ c.loop-j-test.false l.invariant;
      out_after = row_left_end _ _ _ _ l.j _ _ c.loop-j-test.false l.invariant;
    }
