-- `normal::gaps::link_square` meets its contract. The loop's invariant: the rows before i are filled in. Assumes nothing.
use Prim.Native.Nat.{min}
use mathlib.Core.Path.{◌≡◌}
use mathlib.Core.List.{[], map}
use lib.ListN.{length, get_or}
use Rattle.laws.proofs.Filling.{Filled}
use Rattle.normal.specs.Gaps.{weight}
use Rattle.normal.specs.Arrays.{ceiling}
use Rattle.normal.proofs.gaps.link_square.Given as goal

abbrev pub invariant-loop-i : goal.invariant-loop-i
invariant-loop-i l = (length l.square ≡ 48) × Filled [] (λ k. map (min ceiling) (map (weight (get_or l.cost k 0)) (get_or l.links k []))) l.i l.square
