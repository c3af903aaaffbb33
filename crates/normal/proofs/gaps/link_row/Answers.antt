-- `normal::gaps::link_row` meets its contract: each cell is what its link weighs. Assumes nothing.
use mathlib.Core.Path.{sym, ◌∙◌}
use mathlib.Core.List.{map-map}
use Prim.Native.Nat.{min}
use native.Mathlib.Omega.{arith}
use borrow.Author.Rules.{rules}
use lib.ListN.{get_or}
use Rattle.laws.proofs.Filling.{map_places}
use Rattle.laws.proofs.Closures.{array_by_number}
use Rattle.normal.specs.Gaps.{weight}
use Rattle.normal.specs.Arrays.{ceiling}
use Rattle.normal.proofs.gaps.link_row.Goals as goal

pub returns : goal.returns
returns c =
    array_by_number _ _ (λ j. min ceiling (weight c.args.cost (get_or c.args.links.now j 0))) c.from_fn.ensures.items (λ j x q b k. search rules)
    ∙ map_places (λ s. min ceiling (weight c.args.cost s)) c.args.links.now 0 48 (omega arith)
    ∙ sym (map-map (min ceiling) (weight c.args.cost) c.args.links.now)
