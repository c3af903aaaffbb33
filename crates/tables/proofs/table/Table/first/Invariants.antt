-- `tables::table::Table::first` meets its contract. The loop's invariant: the first record at fault is that from the place on. Assumes nothing.
use Rattle.std.specs.Prelude.{◌≡◌, Bool}
use Rattle.laws.proofs.Walking.{FaultFrom}
use Rattle.records.specs.Table.{decode}
use Rattle.tables.proofs.table.Table.first.Given as goal

abbrev pub invariant-loop-place : goal.invariant-loop-place
invariant-loop-place g l = (bad : _ → Bool) → ((r : _) (t : Bool) → goal.F-post g l.test r t → t ≡ bad r) → FaultFrom (λ before r. bad r) (decode g.R.Readable.reading l.self.bytes.now) l.place
