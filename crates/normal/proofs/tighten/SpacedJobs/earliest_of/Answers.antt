-- `normal::tighten::SpacedJobs::earliest_of` meets its contract. The loop's invariant: the earliest start is the later of the time at hand and of what the jobs from i on ask. Assumes nothing.
use mathlib.Core.Path.{◌∙◌}
use borrow.Author.Rules.{rules}
use Rattle.normal.proofs.EarliestLoop.{earliest_first, earliest_present, earliest_absent, earliest_end}
use Rattle.normal.proofs.tighten.SpacedJobs.earliest_of.Goals as goal
use Rattle.normal.proofs.tighten.SpacedJobs.earliest_of.Goals.{then-self-i, else-self-i}

pub loop-i-init : goal.loop-i-init
loop-i-init c = (search rules, earliest_first _ _ _ _ c.requires c.from-earliest.ensures)

pub loop-i-preserved : goal.loop-i-preserved
loop-i-preserved c =
    let jobs = c.args.self.now.jobs.now in
    let square = c.args.self.now.square.now in
    let l = c.loop-i in
    elim c.if-self-i.branch [
      | then-self-i w ↦ (search rules, earliest_present jobs square c.args.j l.i l.earliest c.loop-i-test.true l.invariant.1 c.if-self-i.earliest w.if-self-i.true (w.earliest-is ∙ search rules))
      | else-self-i w ↦ (search rules, rw w.earliest-is (earliest_absent jobs square c.args.j l.i l.earliest c.loop-i-test.true l.invariant.1 w.if-self-i.false))
    ]

pub returns-clause-value : goal.returns-clause-value
returns-clause-value c = earliest_end _ _ _ c.loop-i.i _ c.loop-i-test.false c.loop-i.invariant.1
