-- `tables::table::Table::first` meets its contract. The loop's invariant: the first record at fault is that from the place on. Assumes nothing.
use native.Mathlib.Omega.{arith}
use mathlib.Core.Path.{sym, ◌∙◌}
use Rattle.laws.proofs.Walking.{next_at, fault_here, fault_step, fault_end}
use Rattle.records.proofs.Reading.{length_decode}
use Rattle.tables.proofs.table.Table.first.Goals as goal

pub at-requires : goal.at-requires
at-requires g c =
    let self = c.args.self.now in
    omega (arith, length_decode g.R.Readable.reading self.bytes.now self.count self.whole.size self.whole.readable)

pub returns-then-test : goal.returns-then-test
returns-then-test g c bad tells = sym (fault_here (λ before r. bad r) _ c.loop-place.place (next_at _ _ c.at.ensures) (sym (tells c.at.result c.test.result c.test.ensures) ∙ c.if-test.true) (c.loop-place.invariant bad tells))

pub loop-place-preserved : goal.loop-place-preserved
loop-place-preserved g c bad tells = fault_step (λ before r. bad r) _ c.loop-place.place (next_at _ _ c.at.ensures) (sym (tells c.at.result c.test.result c.test.ensures) ∙ c.if-test.false) (c.loop-place.invariant bad tells)

pub returns : goal.returns
returns g c bad tells =
    let self = c.args.self.now in
    sym (fault_end (λ before r. bad r) _ _ (omega (arith, length_decode g.R.Readable.reading self.bytes.now self.count self.whole.size self.whole.readable)) (c.loop-place.invariant bad tells))
