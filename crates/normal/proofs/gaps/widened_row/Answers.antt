-- `normal::gaps::widened_row` meets its contract: each cell is the one of the row with the chains through the job. Assumes nothing.
use Prim.Native.Nat.{min, max}
use mathlib.Core.Path.{◌∙◌}
use native.Mathlib.Omega.{arith}
use borrow.Author.Rules.{rules}
use lib.ListN.{get_or}
use Rattle.laws.proofs.Closures.{array_by_number}
use Rattle.normal.specs.Gaps.{joined}
use Rattle.normal.specs.Arrays.{ceiling}
use Rattle.normal.proofs.Ceiling.{widened_places}
use Rattle.normal.proofs.gaps.widened_row.Goals as goal

pub returns : goal.returns
returns c =
    array_by_number _ _ (λ j. min ceiling (max (get_or c.args.row.now j 0) (joined c.args.a (get_or c.args.through.now j 0)))) c.from_fn.ensures.items (λ j x q b k. search rules)
    ∙ widened_places (min ceiling) c.args.a c.args.row.now c.args.through.now 48 (omega arith) (omega arith)
