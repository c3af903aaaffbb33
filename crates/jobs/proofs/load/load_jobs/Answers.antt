-- `jobs::load::load_jobs` meets its contract. The loop's invariant: the arrays hold the jobs of the records passed. Assumes nothing.
use native.Mathlib.Omega.{arith}
use mathlib.Core.Path.{◌∙◌, sym, ap}
use mathlib.Core.List.{◌∷◌}
use lib.ListN.{length}
use Rattle.std.specs.Prelude.{◌≤◌}
use Rattle.laws.proofs.Walking.{next_at, behind, behind_next}
use Rattle.records.specs.declared.JobRecord.{JobRecord}
use Rattle.jobs.specs.Call.{job_table}
use Rattle.jobs.specs.Arrays.{jobs_of}
use Rattle.jobs.proofs.Arrays.{jobs_link, jobs_passed}
use Rattle.jobs.proofs.Judging.{judged_sound, job_fits}
use Rattle.jobs.proofs.load.load_jobs.Goals as goal
use Rattle.jobs.proofs.load.load_jobs.Goals.{in-J, in_default}

pub add_job-requires : goal.add_job-requires
unfolding job_table
add_job-requires c = let judged = c.args.judged.now in job_fits (job_table judged.table.bytes.now) judged.sound c.loop-place.place c.at.ensures c.in-J.job c.in-J.is

pub loop-place-preserved : goal.loop-place-preserved
unfolding job_table
loop-place-preserved c =
    let table = job_table c.args.judged.now.table.bytes.now in
    let before = behind c.loop-place.place table in
    elim c.match-at.branch [
      | in-J w ↦ w.jobs-is ∙ w.add_job.ensures before c.loop-place.invariant ∙ ap (λ (r : JobRecord). jobs_of (r ∷ before)) (sym w.in-J.is)
      | in_default w ↦ w.jobs-is ∙ c.loop-place.invariant ∙ sym (jobs_link _ before) ∙ ap (λ (r : JobRecord). jobs_of (r ∷ before)) (sym w.in_default.is)
    ]
    ∙ ap jobs_of (sym (behind_next table c.loop-place.place (next_at table c.loop-place.place c.at.ensures)))

pub returns : goal.returns
unfolding job_table
returns c =
    let judged = c.args.judged.now in
    let table = job_table judged.table.bytes.now in
    let end : length table ≤ c.loop-place.place = omega (arith, c.count-place-end.ensures, c.loop-place-test.false) in
    c.loop-place.invariant ∙ jobs_passed table c.loop-place.place end (judged_sound judged.sound).three
