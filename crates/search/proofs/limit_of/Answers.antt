-- `limit_of` meets its contract: the last mark is that of the largest number. Assumes nothing.
use Rattle.std.proofs.Common.{rules}
use Rattle.search.proofs.MarkLaws.{limit_last, limit_none}
use Rattle.search.proofs.limit_of.Goals as goal

pub returns-in-Some : goal.returns-in-Some
returns-in-Some c = (limit_last _ _ (search rules) (search rules) (search rules), search rules)

pub returns-in-None : goal.returns-in-None
returns-in-None c = (limit_none _ (search rules), search rules)
