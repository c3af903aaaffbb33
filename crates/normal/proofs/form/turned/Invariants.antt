-- `normal::form::turned` meets its contract. The loop's invariant: the rows before k are filled in. Assumes nothing.
use mathlib.Core.Path.{◌≡◌}
use mathlib.Core.List.{[], map}
use lib.ListN.{length}
use Rattle.laws.specs.Lists.{count}
use Rattle.laws.proofs.Filling.{Filled}
use Rattle.normal.specs.Gaps.{cell}
use Rattle.normal.proofs.form.turned.Given as goal

abbrev pub invariant-loop-k : goal.invariant-loop-k
invariant-loop-k l = (length l.into ≡ 48) × Filled [] (λ k. map (λ i. cell l.links i k) (count 0 48)) l.k l.into
