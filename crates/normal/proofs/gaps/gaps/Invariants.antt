-- `normal::gaps::gaps` meets its contract. The loop's invariant: the rounds that are left make of the square at hand what all of them make of the square of the links. Assumes nothing.
use Rattle.normal.specs.Arrays.{ceiling}
use Rattle.normal.proofs.GapsLoop.{Rounding}
use Rattle.normal.proofs.gaps.gaps.Given as goal

abbrev pub invariant-loop-k : goal.invariant-loop-k
invariant-loop-k l = Rounding ceiling l.jobs l.initial.square l.k l.square
