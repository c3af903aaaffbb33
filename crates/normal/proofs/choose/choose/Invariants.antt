-- `normal::choose::choose` meets its contract. The loop's invariant: the rows before i are filled in. Assumes nothing.
use mathlib.Core.Path.{◌≡◌}
use mathlib.Core.List.{[]}
use lib.ListN.{length, get_or}
use Rattle.laws.proofs.Filling.{Filled}
use Rattle.normal.specs.Chosen.{chosen_row}
use Rattle.normal.proofs.choose.choose.Given as goal

abbrev pub invariant-loop-i : goal.invariant-loop-i
invariant-loop-i l =
    (length l.links ≡ 48) × Filled [] (λ k. chosen_row (get_or l.jobs.cost k 0) (get_or l.windows.latest k 0) l.windows.earliest (get_or l.square k [])) l.i l.links
