-- `normal::write::write_jobs` meets its contract. The loop's invariant: the jobs from n on are left to be written. Assumes nothing.
use mathlib.Core.Path.{◌∙◌}
use Rattle.normal.specs.Chosen.{job_in}
use Rattle.normal.proofs.WriteLoops.{jobs_left_first, jobs_left_room, jobs_left_present, jobs_left_absent, jobs_left_end}
use Rattle.normal.proofs.write.write_jobs.Goals as goal
use Rattle.normal.proofs.write.write_jobs.Goals.{then-jobs-n, else-jobs-n}

pub loop-n-init : goal.loop-n-init
loop-n-init c = jobs_left_first _ _ _ c.requires.1

pub write-requires : goal.write-requires
write-requires c = jobs_left_room _ _ _ _ _ _ c.loop-n-test.true c.loop-n.invariant c.if-jobs-n.true

pub loop-n-preserved : goal.loop-n-preserved
unfolding job_in
loop-n-preserved c =
    let a = c.args in
    let l = c.loop-n in
    elim c.if-jobs-n.branch [
      | then-jobs-n w ↦ rw w.place-is (jobs_left_present a.jobs.now a.windows.now a.out.now l.n l.out l.place c.loop-n-test.true l.invariant c.if-jobs-n.out w.if-jobs-n.true (w.out-is ∙ w.write.ensures))
      | else-jobs-n w ↦ rw (w.out-is, w.place-is) (jobs_left_absent a.jobs.now a.windows.now a.out.now l.n l.out l.place c.loop-n-test.true l.invariant w.if-jobs-n.false)
    ]

pub returns : goal.returns
returns c = jobs_left_end _ _ _ c.loop-n.n _ _ c.loop-n-test.false c.loop-n.invariant
