-- `normal::tighten::SpacedJobs::latest_of` meets its contract. The loop's invariant: the latest start is the earlier of the time at hand and of what the jobs from k on ask. Assumes nothing.
use mathlib.Core.Path.{◌∙◌}
use borrow.Author.Rules.{rules}
use Rattle.normal.proofs.LatestLoop.{latest_first, latest_present, latest_absent, latest_end}
use Rattle.normal.proofs.tighten.SpacedJobs.latest_of.Goals as goal
use Rattle.normal.proofs.tighten.SpacedJobs.latest_of.Goals.{then-self-k, else-self-k}

pub loop-k-init : goal.loop-k-init
loop-k-init c = latest_first _ _ _ _ c.last_start-own.ensures

pub loop-k-preserved : goal.loop-k-preserved
loop-k-preserved c =
    let jobs = c.args.self.now.jobs.now in
    let square = c.args.self.now.square.now in
    let l = c.loop-k in
    elim c.if-self-k.branch [
      | then-self-k w ↦ latest_present jobs square c.args.j l.k l.latest c.loop-k-test.true l.invariant c.if-self-k.latest w.if-self-k.true (λ table same. rw (← c.last_start-own.ensures table same, ← w.last_start.ensures table same) (w.latest-is ∙ search rules))
      | else-self-k w ↦ rw w.latest-is (latest_absent jobs square c.args.j l.k l.latest c.loop-k-test.true l.invariant w.if-self-k.false)
    ]

pub returns : goal.returns
returns c = latest_end _ _ _ c.loop-k.k _ c.loop-k-test.false c.loop-k.invariant
