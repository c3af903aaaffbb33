-- `normal::write::count_links` meets its contract: the links are as many as the cells that hold one, row by row. Assumes nothing.
use mathlib.Core.Path.{◌≡◌}
use native.Mathlib.Omega.{arith}
use borrow.Author.Rules.{rules}
use Rattle.std.proofs.Common.{tests}
use Rattle.std.specs.List.{sum_by}
use Rattle.std.proofs.lemmas.Iterator.{YieldsList-from_slice}
use Rattle.std.proofs.lemmas.Iterator.Adapters.{fits_from_length, at_most_from_yields_List}
use Rattle.normal.proofs.Counts.{holding, links_counted, links_most}
use Rattle.normal.proofs.write.count_links.Goals as goal

pub sum-requires-clause-fits : goal.sum-requires-clause-fits
sum-requires-clause-fits c =
    fits_from_length _ _ 48 _ (at_most_from_yields_List (YieldsList-from_slice c.args.links (search rules)) (omega arith)) c.map.ensures.closure (omega arith) (λ x r q k. search (rules, tests))

pub returns : goal.returns
returns c =
    let counted : c.sum.result ≡ sum_by holding c.args.links = search rules in
    omega (arith, links_most c.args.links, links_counted c.args.links (omega arith))
