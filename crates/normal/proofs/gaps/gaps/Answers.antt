-- `normal::gaps::gaps` meets its contract. The loop's invariant: the rounds that are left make of the square at hand what all of them make of the square of the links. Assumes nothing.
use mathlib.Core.Path.{◌∙◌}
use native.Mathlib.Omega.{arith}
use Rattle.normal.specs.Arrays.{ceiling}
use Rattle.normal.proofs.GapsLoop.{rounding_first, rounding_present, rounding_absent, rounding_end}
use Rattle.normal.proofs.gaps.gaps.Goals as goal
use Rattle.normal.proofs.gaps.gaps.Goals.{then-jobs-k, else-jobs-k}

pub loop-k-init : goal.loop-k-init
loop-k-init c = rounding_first ceiling c.args.jobs c.args.links _ c.link_square-square.ensures

pub loop-k-preserved : goal.loop-k-preserved
loop-k-preserved c =
    let a = c.args in
    let l = c.loop-k in
    elim c.if-jobs-k.branch [
      | then-jobs-k w ↦ rounding_present ceiling a.jobs (omega arith) c.link_square-square.result l.k l.square l.invariant c.if-jobs-k.square c.loop-k-test.true w.if-jobs-k.true (w.square-is ∙ w.round.ensures)
      | else-jobs-k w ↦ rw w.square-is (rounding_absent ceiling a.jobs (omega arith) c.link_square-square.result l.k l.square l.invariant c.loop-k-test.true w.if-jobs-k.false)
    ]

pub returns : goal.returns
returns c =
    let l = c.loop-k in
    let made = c.link_square-square in
    rounding_end ceiling c.args.jobs (omega arith) made.result l.k l.square l.invariant c.loop-k-test.false c.args.links made.ensures
