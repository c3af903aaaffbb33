-- `normal::tighten::no_starts` meets its contract: some number is that of a job that is late. Assumes nothing.
use mathlib.Core.Path.{refl, ◌∙◌}
use mathlib.Core.Bool.{false, ◌&&◌}
use borrow.Author.Rules.{rules}
use borrow.Author.Tests.{tests}
use lib.ListN.{get_or}
use Rattle.laws.proofs.Closures.{any_below}
use Rattle.normal.proofs.StartsLoop.{is_late, starts_marked}
use Rattle.normal.proofs.tighten.no_starts.Goals as goal

pub returns : goal.returns
returns c table same =
    any_below 48 (λ j. get_or c.args.jobs.present j false && is_late table c.args.square j) _ _ _ c.any.ensures.ran refl (λ x b q k. search (rules, tests))
    ∙ starts_marked c.args.jobs c.args.square table same
