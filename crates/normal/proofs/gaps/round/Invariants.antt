-- `normal::gaps::round` meets its contract. The loop's invariant: the rows before this one have the chains through k, and the others are as they were. Assumes nothing.
use mathlib.Core.Path.{◌≡◌}
use Rattle.normal.specs.Arrays.{ceiling}
use Rattle.normal.proofs.RoundLoop.{passing}
use Rattle.normal.proofs.gaps.round.Given as goal

abbrev pub invariant-loop-row : goal.invariant-loop-row
invariant-loop-row l = l.row-items ≡ passing ceiling l.k l.initial.row-items l.row-index
