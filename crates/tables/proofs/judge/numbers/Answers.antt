-- `tables::judge::numbers` meets its contract. The loop's invariant: the first record at fault by 3 is that from the place on, and the marks are of the numbers given before it. Assumes nothing.
use native.Mathlib.Omega.{arith}
use mathlib.Core.Path.{refl, sym, ap, ◌∙◌}
use Rattle.std.specs.Prelude.{◌≤◌, length}
use Rattle.laws.specs.Lists.{found}
use Rattle.laws.proofs.Walking.{next_at, fault_here, fault_step, fault_end, behind, behind_next}
use Rattle.records.specs.Table.{decode}
use Rattle.tables.specs.Judge.{bad_number, number_at_fault, fault3, marks}
use Rattle.tables.proofs.Marks.{marks_kept, marks_passed}
use Rattle.tables.proofs.judge.numbers.Goals as goal
use Rattle.tables.proofs.judge.numbers.Goals.{in-Some+else-bad_number, in_default}

pub loop-place-init : goal.loop-place-init
unfolding marks
loop-place-init g c = (refl, refl)

pub returns-then-bad_number : goal.returns-then-bad_number
unfolding fault3
returns-then-bad_number g c =
    let rules = g.R.Kind.rules in
    let table = decode g.R.Readable.reading c.args.table.now.bytes.now in
    let i = c.loop-place.place in
    let bad = ap (number_at_fault rules (behind i table)) (sym c.number.ensures ∙ c.in-Some.is) ∙ sym (c.bad_number.ensures (behind i table) c.loop-place.invariant.1) ∙ c.if-bad_number.true in
    ap found (fault_here (bad_number rules) table i (next_at table i c.at.ensures) bad c.loop-place.invariant.0)

pub loop-place-preserved : goal.loop-place-preserved
loop-place-preserved g c =
    let rules = g.R.Kind.rules in
    let table = decode g.R.Readable.reading c.args.table.now.bytes.now in
    let i = c.loop-place.place in
    let before = behind i table in
    let next = next_at table i c.at.ensures in
    elim c.match-number.branch [
      | in-Some+else-bad_number w ↦
          let gives = sym c.number.ensures ∙ w.in-Some.is in (
            fault_step (bad_number rules) table i next (ap (number_at_fault rules before) gives ∙ sym (w.bad_number.ensures before c.loop-place.invariant.1) ∙ w.if-bad_number.false) c.loop-place.invariant.0,
            w.given-is ∙ w.give.ensures c.at.result before gives c.loop-place.invariant.1 ∙ ap (marks rules) (sym (behind_next table i next)),
          )
      | in_default w ↦
          let none = sym c.number.ensures ∙ w.in_default.is in (
            fault_step (bad_number rules) table i next (ap (number_at_fault rules before) none) c.loop-place.invariant.0,
            w.given-is ∙ c.loop-place.invariant.1 ∙ sym (marks_kept rules c.at.result before none) ∙ ap (marks rules) (sym (behind_next table i next)),
          )
    ]

pub returns : goal.returns
unfolding fault3
returns g c =
    let rules = g.R.Kind.rules in
    let table = decode g.R.Readable.reading c.args.table.now.bytes.now in
    let end : length table ≤ c.loop-place.place = omega (arith, c.count-place-end.ensures, c.loop-place-test.false) in (
      fault_end (bad_number rules) table c.loop-place.place end c.loop-place.invariant.0,
      c.loop-place.invariant.1 ∙ marks_passed rules table c.loop-place.place end,
    )
