-- `normal::form::turned_row` meets its contract: each cell is the link from its number. Assumes nothing.
use borrow.Author.Rules.{rules}
use Rattle.laws.proofs.Closures.{array_by_number}
use Rattle.normal.specs.Gaps.{cell}
use Rattle.normal.proofs.form.turned_row.Goals as goal

pub returns : goal.returns
returns c = array_by_number _ _ (λ i. cell c.args.links.now i c.args.k) c.from_fn.ensures.items (λ i x q b h. search rules)
