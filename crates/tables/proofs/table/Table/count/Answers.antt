-- `tables::table::Table::count` meets its contract: all records can be read. Assumes nothing.
use mathlib.Core.Path.{sym}
use Rattle.records.proofs.Reading.{length_decode}
use Rattle.tables.proofs.table.Table.count.Goals as goal

pub returns : goal.returns
returns g c = let self = c.args.self.now in sym (length_decode g.R.Readable.reading self.bytes.now self.count self.whole.size self.whole.readable)
