-- `jobs::load::load_links` meets its contract. The loop's invariant: the square holds the strongest links of the records passed. Assumes nothing.
use mathlib.Core.Path.{◌≡◌}
use Rattle.laws.proofs.Walking.{behind}
use Rattle.jobs.specs.Call.{job_table}
use Rattle.jobs.specs.Arrays.{links_of}
use Rattle.jobs.proofs.load.load_links.Given as goal

abbrev pub invariant-loop-place : goal.invariant-loop-place
invariant-loop-place l = l.links ≡ links_of (behind l.place (job_table l.judged.table.bytes.now))
