-- `passes::cycle::multiple` meets its contract. The loop's invariant: m is a multiple of a up to the least common one.
-- Assumes nothing.
use Prim.Native.Nat.{◌<◌, ◌≤◌, ◌∣◌}
use Rattle.passes.specs.Expand.{lcm}
use Rattle.passes.proofs.cycle.multiple.Given as goal

abbrev pub invariant-loop-m : goal.invariant-loop-m
invariant-loop-m l = (0 < l.m) × (l.a ∣ l.m) × (l.m ≤ lcm l.a l.b)
