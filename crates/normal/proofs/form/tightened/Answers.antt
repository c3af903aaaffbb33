-- `normal::form::tightened` meets its contract: each deadline is the latest start and the cost. Assumes nothing.
use Prim.Native.Nat.{◌+◌}
use borrow.Author.Rules.{rules}
use lib.ListN.{get_or}
use Rattle.laws.proofs.Closures.{array_by_number}
use Rattle.normal.proofs.FormGiven.{jobs_given}
use Rattle.normal.proofs.form.tightened.Goals as goal

pub returns : goal.returns
returns c table square held same =
    jobs_given held _ same
    (array_by_number _ _ (λ n. get_or c.args.tight.latest n 0 + get_or c.args.jobs.cost n 0) c.from_fn.ensures.items (λ n x q b k. search rules))
