-- `tables::table::Table::read` meets its contract. The loop's invariant: the first record that cannot be read is that from the place on. Assumes nothing.
use Rattle.records.proofs.Reading.{UnreadableFrom}
use Rattle.tables.proofs.table.Table.read.Given as goal

abbrev pub invariant-loop-place : goal.invariant-loop-place
invariant-loop-place g l = UnreadableFrom g.R.Readable.reading l.bytes l.place
