-- `tables::table::Table::read` meets its contract. The loop's invariant: the first record that cannot be read is that from the place on. Assumes nothing.
use native.Mathlib.Omega.{arith}
use mathlib.Core.Path.{sym, ◌∙◌}
use Rattle.records.proofs.Finding.{whole_records}
use Rattle.records.proofs.Reading.{unreadable_step, unreadable_here, unreadable_end}
use Rattle.tables.specs.Table.{read_number}
use Rattle.tables.proofs.table.Table.read.Goals as goal

pub returns-then-bad_length : goal.returns-then-bad_length
unfolding read_number
returns-then-bad_length g c later = rw (sym c.bad_length.ensures ∙ c.if-bad_length.true)

pub returns-in_default : goal.returns-in_default
unfolding read_number
returns-in_default g c later =
    let one = sym c.bad_length.ensures ∙ c.if-bad_length.false in
    let whole = (whole_records c.args.bytes.now one).0 in
    rw (one, unreadable_here g.R.Readable.reading c.args.bytes.now _ whole c.loop-place.place (omega arith) (sym c.read.ensures ∙ c.in_default.is) c.loop-place.invariant)

pub loop-place-preserved : goal.loop-place-preserved
loop-place-preserved g c =
    let one = sym c.bad_length.ensures ∙ c.if-bad_length.false in
    let whole = (whole_records c.args.bytes.now one).0 in
    unreadable_step g.R.Readable.reading c.args.bytes.now _ whole c.loop-place.place (omega arith) (sym c.read.ensures ∙ c.in-Some.is) c.loop-place.invariant

pub invariant_of-result : goal.invariant_of-result
invariant_of-result g c =
    let one = sym c.bad_length.ensures ∙ c.if-bad_length.false in
    let size = (whole_records c.args.bytes.now one).0 in
    record { whole = record { size = size; readable = unreadable_end g.R.Readable.reading c.args.bytes.now _ size _ (omega arith) c.loop-place.invariant } }
