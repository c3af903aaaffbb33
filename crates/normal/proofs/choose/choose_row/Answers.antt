-- `normal::choose::choose_row` meets its contract: each cell is the chosen one. Assumes nothing.
use borrow.Author.Rules.{rules}
use lib.ListN.{get_or}
use Rattle.laws.proofs.Closures.{array_by_number}
use Rattle.normal.specs.Chosen.{chosen_cell, chosen_row}
use Rattle.normal.proofs.choose.choose_row.Goals as goal

pub returns : goal.returns
unfolding chosen_row
returns c =
    array_by_number _ _ (λ j. chosen_cell c.args.cost c.args.latest (get_or c.args.earliest.now j 0) (get_or c.args.row.now j 0)) c.from_fn.ensures.items (λ j x q b k. search rules)
