-- `normal::write::count_jobs` meets its contract: the jobs are as many as the marks that are set. Assumes nothing.
use mathlib.Core.Path.{◌≡◌}
use native.Mathlib.Omega.{arith}
use borrow.Author.Rules.{rules}
use Rattle.std.specs.List.{count_by}
use Rattle.std.proofs.lemmas.List.Sums.{count_by-le-length}
use Rattle.normal.proofs.Counts.{present_counted}
use Rattle.normal.proofs.write.count_jobs.Goals as goal

pub returns : goal.returns
returns c =
    let marks = c.args.jobs.present in
    let counted : c.count.result ≡ count_by (λ b. b) marks = search rules in
    omega (arith, count_by-le-length (λ b. b) marks, present_counted c.args.jobs (omega arith))
