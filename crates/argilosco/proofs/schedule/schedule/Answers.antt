-- `argilosco::schedule::schedule` meets its contract: the code holds the table's jobs and its square of gaps, so that the search is handed its normal form. Assumes nothing.
use Prim.Native.Nat.{◌*◌}
use native.Mathlib.Omega.{arith}
use mathlib.Core.Path.{refl, sym, ap, ◌∙◌}
use lib.ListN.{length}
use Rattle.std.proofs.lemmas.Result.{err_from_is_err_and}
use Rattle.records.specs.Outcome.{Outcome, overwrite}
use Rattle.normal.proofs.Held.{normalisable}
use Rattle.normal.proofs.NormalSound.{normal_sound}
use Rattle.normal.proofs.FormHeld.{ends_fit, writable}
use Rattle.search.specs.Call.{schedule_number}
use Rattle.argilosco.proofs.Passing.{number_above, formed}
use Rattle.argilosco.proofs.Scheduling.{schedule_refused, schedule_searched, room_scheduled, begun_scheduled, form_counted, into_given, written_length}
use Rattle.argilosco.proofs.schedule.schedule.Goals as goal

pub returns-in_err-held : goal.returns-in_err-held
unfolding schedule_number
returns-in_err-held c =
    let p = err_from_is_err_and c.from_residual.result c.from_residual.ensures.1 in
    rw (p.1, p.2) (schedule_refused _ _ _ _ (number_above _) (c.in_err-held.ensures _), refl)

pub returns-then-out-room : goal.returns-then-out-room
returns-then-out-room c =
    (schedule_refused _ _ _ 9 (λ z. omega (arith, z)) (room_scheduled (formed _ (c.in_ok-held.ensures.1 0)) c.in_ok-held.ensures.0 _ (omega (arith, c.count_jobs-room.ensures.1))), refl)

pub windows-tight-requires : goal.windows-tight-requires
windows-tight-requires c = (_, c.in_ok-held.ensures.0)

pub choose-requires : goal.choose-requires
choose-requires c = writable c.in_ok-held.ensures.0

pub tightened-requires : goal.tightened-requires
tightened-requires c =
    let holds = c.in_ok-held.ensures.0 in
    ends_fit holds _ (c.windows-tight.ensures _ holds)

pub search-found-requires : goal.search-found-requires
search-found-requires c =
    let holds = c.in_ok-held.ensures.0 in
    let tight = c.tightened.ensures _ _ holds (c.windows-tight.ensures _ holds) in
    omega (arith, form_counted holds tight, c.count_jobs-room.ensures.1)

pub returns : goal.returns
returns c =
    let holds = c.in_ok-held.ensures.0 in
    let begun = begun_scheduled (formed _ (c.in_ok-held.ensures.1 0)) holds _ (omega (arith, c.count_jobs-room.ensures.1)) in
    let same = c.windows-tight.ensures _ holds in
    let answers = c.search-found.ensures _ (normal_sound (normalisable holds)) (c.tightened.ensures _ _ holds same) (into_given holds _ same c.choose.ensures c.turned-into.ensures) in
    let is = schedule_searched _ c.args.budget _ begun in record {
      number = c.answered.ensures.number ∙ answers.number ∙ sym (ap (λ (o : Outcome). o.number) is);
      written = written_length holds _ answers.number (λ z. c.answered.ensures.written z ∙ ap (λ n. 12 * n) c.count_jobs-room.ensures.1) c.answered.ensures.nothing_written
          ∙ sym (ap (λ (o : Outcome). length o.bytes) is);
      openings = c.answered.ensures.openings ∙ answers.openings ∙ sym (ap (λ (o : Outcome). o.openings) is);
      output = answers.output ∙ sym (ap (λ (o : Outcome). overwrite o.bytes c.args.out.now) is);
    }
