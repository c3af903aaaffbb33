-- No more bytes came than the table holds, and each turn leaves less of it to fill.
use Rattle.std.proofs.Common.{length, ◌-◌, ◌≤◌, ◌≡◌}
use Rattle.print.proofs.read_table.Given as goal

abbrev pub invariant-loop-n : goal.invariant-loop-n
invariant-loop-n g l = (length l.table ≡ length l.initial.table) × (l.n ≤ length l.table)

abbrev pub decreases-loop-n : goal.decreases-loop-n
decreases-loop-n g l = length l.initial.table - l.n
