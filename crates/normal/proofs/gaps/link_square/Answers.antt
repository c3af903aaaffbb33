-- `normal::gaps::link_square` meets its contract. The loop's invariant: the rows before i are filled in. Assumes nothing.
use Prim.Native.Nat.{min}
use mathlib.Core.Path.{◌≡◌, sym, ◌∙◌}
use mathlib.Core.List.{[], map, map-map}
use native.Mathlib.Omega.{arith}
use borrow.Author.Rules.{rules}
use lib.ListN.{get_or}
use Rattle.laws.specs.Lists.{count}
use Rattle.laws.proofs.Filling.{filled_more, filled_all}
use Rattle.normal.specs.Gaps.{weight}
use Rattle.normal.specs.Arrays.{ceiling, capped, weighed}
use Rattle.normal.proofs.gaps.link_square.Goals as goal

pub loop-i-preserved : goal.loop-i-preserved
loop-i-preserved c = (search rules, filled_more [] _ c.loop-i.i c.loop-i.square c.loop-i.invariant.1 (omega arith) c.link_row.ensures)

pub returns : goal.returns
unfolding capped weighed
returns c =
    let end : c.loop-i.i ≡ 48 = omega arith in
    filled_all [] _ 48 _ c.loop-i.invariant.0 (rw end at c.loop-i.invariant.1)
    ∙ sym (map-map (map (min ceiling)) (λ i. map (weight (get_or c.args.cost i 0)) (get_or c.args.links i [])) (count 0 48))
