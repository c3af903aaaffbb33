-- `passes::load::load_passes` meets its contract. The loop's invariant: the arrays hold the passes of the records passed. Assumes nothing.
use native.Mathlib.Omega.{arith}
use mathlib.Core.Path.{refl, ◌∙◌, sym, ap}
use mathlib.Core.List.{◌∷◌}
use lib.ListN.{length}
use Rattle.std.specs.Prelude.{◌≤◌}
use Rattle.laws.proofs.Walking.{next_at, behind, behind_next}
use Rattle.records.specs.declared.PassRecord.{PassRecord}
use Rattle.passes.specs.Call.{pass_table}
use Rattle.passes.specs.Arrays.{passes_of}
use Rattle.passes.proofs.Arrays.{passes_more, passes_flow, passes_passed}
use Rattle.passes.proofs.Judging.{judged_sound, pass_fits}
use Rattle.passes.proofs.load.load_passes.Goals as goal
use Rattle.passes.proofs.load.load_passes.Goals.{in-P, in_default}

pub loop-place-init : goal.loop-place-init
unfolding passes_of
loop-place-init c = refl

pub bounds-passes-from : goal.bounds-passes-from
unfolding pass_table
bounds-passes-from c =
    let judged = c.args.judged.now in
    omega (arith, c.from.ensures, pass_fits (pass_table judged.table.bytes.now) judged.sound c.loop-place.place c.at.ensures c.in-P.pass c.in-P.is)

pub loop-place-preserved : goal.loop-place-preserved
unfolding pass_table
loop-place-preserved c =
    let table = pass_table c.args.judged.now.table.bytes.now in
    let before = behind c.loop-place.place table in
    elim c.match-at.branch [
      | in-P w ↦
          let below = pass_fits table c.args.judged.now.sound c.loop-place.place c.at.ensures w.in-P.pass w.in-P.is in
          w.passes-is ∙ rw w.from.ensures (passes_more w.in-P.pass before below c.loop-place.invariant) ∙ ap (λ (r : PassRecord). passes_of (r ∷ before)) (sym w.in-P.is)
      | in_default w ↦ w.passes-is ∙ c.loop-place.invariant ∙ sym (passes_flow _ before) ∙ ap (λ (r : PassRecord). passes_of (r ∷ before)) (sym w.in_default.is)
    ]
    ∙ ap passes_of (sym (behind_next table c.loop-place.place (next_at table c.loop-place.place c.at.ensures)))

pub returns : goal.returns
unfolding pass_table
returns c =
    let judged = c.args.judged.now in
    let table = pass_table judged.table.bytes.now in
    let end : length table ≤ c.loop-place.place = omega (arith, c.count-place-end.ensures, c.loop-place-test.false) in
    c.loop-place.invariant ∙ passes_passed table c.loop-place.place end (judged_sound judged.sound).three
