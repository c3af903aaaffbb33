-- `tables::judge::numbers` meets its contract. The loop's invariant: the first record at fault by 3 is that from the place on, and the marks are of the numbers given before it. Assumes nothing.
use Rattle.std.specs.Prelude.{◌≡◌}
use Rattle.laws.proofs.Walking.{FaultFrom, behind}
use Rattle.records.specs.Table.{decode}
use Rattle.tables.specs.Judge.{bad_number}
use Rattle.tables.specs.Judge.{marks}
use Rattle.tables.proofs.judge.numbers.Given as goal

abbrev pub invariant-loop-place : goal.invariant-loop-place
invariant-loop-place g l =
    let table = decode g.R.Readable.reading l.table.bytes.now in
    FaultFrom (bad_number g.R.Kind.rules) table l.place × (l.given ≡ marks g.R.Kind.rules (behind l.place table))
