-- `normal::gaps::ring_in` meets its contract: the test of each number is the one of the definition. Assumes nothing.
use mathlib.Core.Path.{refl}
use mathlib.Core.Bool.{not}
use lib.Dec.{eqb}
use borrow.Author.Rules.{rules}
use borrow.Author.Tests.{tests}
use Rattle.laws.proofs.Closures.{any_below}
use Rattle.normal.specs.Gaps.{cell, ring_in}
use Rattle.normal.proofs.gaps.ring_in.Goals as goal

pub returns : goal.returns
unfolding ring_in
returns c = any_below 48 (λ n. not (eqb (cell c.args.square n n) 0)) _ _ _ c.any.ensures.ran refl (λ x b q k. search (rules, tests))
