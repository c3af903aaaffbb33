-- `tables::table::Table::at` meets its contract: all records can be read, and the one at a place is the decoded one. Assumes nothing.
use native.Mathlib.Omega.{arith}
use mathlib.Core.Path.{sym, ◌∙◌}
use Rattle.laws.proofs.Walking.{next_get}
use Rattle.records.proofs.Reading.{length_decode, can_read, next_record}
use Rattle.tables.proofs.table.Table.at.Goals as goal

pub read-requires : goal.read-requires
read-requires g c =
    let self = c.args.self.now in
    omega (arith, c.requires, self.whole.size, length_decode g.R.Readable.reading self.bytes.now self.count self.whole.size self.whole.readable)

pub unreachable-requires : goal.unreachable-requires
unreachable-requires g c =
    let self = c.args.self.now in
    can_read g.R.Readable.reading self.bytes.now self.count self.whole.size self.whole.readable c.args.place
    (omega (arith, c.requires, length_decode g.R.Readable.reading self.bytes.now self.count self.whole.size self.whole.readable)) (sym c.read.ensures ∙ c.in_default.is)

pub returns : goal.returns
returns g c =
    let self = c.args.self.now in
    next_get _ _ (next_record g.R.Readable.reading self.bytes.now self.count self.whole.size self.whole.readable c.args.place
    (omega (arith, c.requires, length_decode g.R.Readable.reading self.bytes.now self.count self.whole.size self.whole.readable)) (sym c.read.ensures ∙ c.in-Some.is))
