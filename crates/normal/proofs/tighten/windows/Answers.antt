-- `normal::tighten::windows` meets its contract: each window is that of its number. Assumes nothing.
use native.Mathlib.Omega.{arith}
use borrow.Author.Rules.{rules}
use Rattle.laws.proofs.Callable.{callable_below}
use Rattle.laws.proofs.Closures.{array_by_number}
use Rattle.normal.specs.Windows.{windows, earliest_of, latest_of}
use Rattle.normal.proofs.Held.{earliest_fits}
use Rattle.normal.proofs.tighten.windows.Goals as goal

pub from_fn-requires : goal.from_fn-requires
from_fn-requires c =
    let held = c.requires.1 in
    (omega arith, callable_below _ 48 (λ x q r. search rules) (λ x below. let fits = earliest_fits held x below in search (rules, held.jobs_held)))

pub returns : goal.returns
unfolding windows
returns c table held =
    let square = c.args.square in
    let earliest = array_by_number _ _ (earliest_of table square) c.from_fn.ensures.items (λ j x q b k. search (rules, held.jobs_held)) in
    let latest = array_by_number _ _ (latest_of table square) c.from_fn-2.ensures.items (λ j x q b k. search (rules, held.jobs_held)) in
    λ i. record { earliest = earliest i; latest = latest i }
