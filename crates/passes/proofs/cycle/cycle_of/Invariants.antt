-- `passes::cycle::cycle_of` meets its contract. The loop's invariant: the whole cycle is that of the passes from the index on, from the cycle found so far.
-- Assumes nothing.
use Prim.Native.Nat.{◌<◌, ◌≤◌}
use mathlib.Core.Path.{◌≡◌}
use Rattle.passes.specs.Expand.{cycle_from}
use Rattle.passes.specs.Timely.{in_order}
use Rattle.passes.proofs.Numbers.{passes_from}
use Rattle.passes.proofs.cycle.cycle_of.Given as goal

abbrev pub invariant-loop-held : goal.invariant-loop-held
invariant-loop-held l =
    (0 < l.cycle)
    × (l.cycle ≤ 48000)
    × (cycle_from 1 (in_order l.passes) ≡ cycle_from l.cycle (passes_from l.passes l.held-index))
