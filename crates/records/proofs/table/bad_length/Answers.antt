-- `records::table::bad_length` meets its contract: the test on the remainder picks the case of `bad_length`. Assumes nothing.
use borrow.Author.Tests.{eq-eqb, ne_eqb}
use Rattle.records.specs.Table.{bad_length}
use Rattle.records.proofs.table.bad_length.Goals as goal

pub returns-then-s-ne0 : goal.returns-then-s-ne0
unfolding bad_length
returns-then-s-ne0 c = rw (ne_eqb _ _ c.if-s-ne0.true)

pub returns-else-s-ne0 : goal.returns-else-s-ne0
unfolding bad_length
returns-else-s-ne0 c = rw (eq-eqb _ _ c.if-s-ne0.false)
