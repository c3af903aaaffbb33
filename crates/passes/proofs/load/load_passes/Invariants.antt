-- `passes::load::load_passes` meets its contract. The loop's invariant: the arrays hold the passes of the records passed. Assumes nothing.
use mathlib.Core.Path.{◌≡◌}
use Rattle.laws.proofs.Walking.{behind}
use Rattle.passes.specs.Call.{pass_table}
use Rattle.passes.specs.Arrays.{passes_of}
use Rattle.passes.proofs.load.load_passes.Given as goal

abbrev pub invariant-loop-place : goal.invariant-loop-place
invariant-loop-place l = l.passes ≡ passes_of (behind l.place (pass_table l.judged.table.bytes.now))
