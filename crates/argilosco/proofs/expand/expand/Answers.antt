-- `argilosco::expand::expand` meets its contract: each answer keeps what expanding comes to. The room is the exact length of the jobs and the links,
-- and the links are written into the output from its middle on, straight after the jobs. Assumes nothing.
use Prim.Native.Nat.{ℕ, ◌-◌, ◌*◌}
use native.Mathlib.Omega.{arith}
use mathlib.Core.Path.{refl, sym, ap, ◌∙◌}
use mathlib.Core.List.{List}
use lib.ListN.{length, length-take, length-drop}
use Rattle.std.proofs.lemmas.Result.{err_from_is_err_and}
use Rattle.passes.specs.Call.{expand}
use Rattle.passes.proofs.Accepted.{jobs_within}
use Rattle.argilosco.proofs.Expanding.{refused_right, short_right, done_right, jobs_counted, job_part_lem, exact_counted, small_counted, both_written}
use Rattle.argilosco.proofs.Passing.{number_above}
use Rattle.argilosco.proofs.expand.expand.Goals as goal

pub returns-in_err-accepted : goal.returns-in_err-accepted
returns-in_err-accepted c =
    let p = err_from_is_err_and c.from_residual.result c.from_residual.ensures.1 in
    rw (p.1, p.2) (refused_right c.args.passes.now _ _ (number_above _) c.in_err-accepted.ensures, refl)

pub overflow_mul-middle : goal.overflow_mul-middle
overflow_mul-middle c =
    let a = c.in_ok-accepted.accepted in
    let bytes = a.judged.table.bytes.now in
    omega (arith, jobs_counted bytes a.accepted a.counted, jobs_within bytes a.accepted)

pub overflow_mul-room : goal.overflow_mul-room
overflow_mul-room c =
    let a = c.in_ok-accepted.accepted in
    let bytes = a.judged.table.bytes.now in
    omega (arith, small_counted bytes a.accepted (jobs_counted bytes a.accepted a.counted) c.count_links.ensures)

pub overflow_add-room : goal.overflow_add-room
overflow_add-room c =
    let a = c.in_ok-accepted.accepted in
    let bytes = a.judged.table.bytes.now in
    omega (arith, small_counted bytes a.accepted (jobs_counted bytes a.accepted a.counted) c.count_links.ensures)

pub returns-then-out-room : goal.returns-then-out-room
returns-then-out-room c =
    let a = c.in_ok-accepted.accepted in
    let bytes = a.judged.table.bytes.now in
    let exact = exact_counted bytes a.accepted (jobs_counted bytes a.accepted a.counted) c.count_links.ensures in
    (ap (λ (b : List ℕ). expand b (length c.args.out.now)) (sym c.in_ok-accepted.ensures) ∙ short_right bytes _ a.accepted.number (omega (arith, exact, c.if-out-room.true)), refl)

pub write_jobs-requires : goal.write_jobs-requires
write_jobs-requires c =
    let a = c.in_ok-accepted.accepted in
    let bytes = a.judged.table.bytes.now in
    record {
      few = jobs_within bytes a.accepted;
      room = omega (arith, jobs_counted bytes a.accepted a.counted, c.if-out-room.false);
    }

pub write_links-requires : goal.write_links-requires
write_links-requires c = simp (length-take, length-drop) (omega (arith, c.write_jobs.auto.out, c.if-out-room.false, c.count_links.ensures))

pub overflow_cast-result : goal.overflow_cast-result
overflow_cast-result c =
    let a = c.in_ok-accepted.accepted in
    let bytes = a.judged.table.bytes.now in
    omega (arith, small_counted bytes a.accepted (jobs_counted bytes a.accepted a.counted) c.count_links.ensures)

pub returns : goal.returns
returns c =
    let a = c.in_ok-accepted.accepted in
    let bytes = a.judged.table.bytes.now in
    let counted = jobs_counted bytes a.accepted a.counted in
    let exact = exact_counted bytes a.accepted counted c.count_links.ensures in
    let is = ap (λ (b : List ℕ). expand b (length c.args.out.now)) (sym c.in_ok-accepted.ensures) ∙ done_right bytes _ a.accepted.number (omega (arith, exact, c.if-out-room.false)) in
    rw is (
      refl,
      sym exact,
      both_written bytes a.accepted c.args.out.now (12 * a.jobs) (length c.write_jobs.new.out - 12 * a.jobs)
          c.write_jobs.ensures (omega (arith, job_part_lem bytes a.accepted, counted)) refl c.write_links.ensures,
    )
