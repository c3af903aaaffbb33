-- The three calls as one definition, by which the tables of cases are judged.
use Rattle.std.specs.Prelude.{ℕ, List}
use Rattle.records.specs.Outcome.{Outcome}
use Rattle.cases.specs.Case.{Call, expanding, normalising, scheduling}
use Rattle.passes.specs.Call.{expand}
use Rattle.normal.specs.Call.{normalise}
use Rattle.search.specs.Call.{scheduled}

-- what a call on a table's bytes comes to, with so much room
unfoldable pub comes_to : Call → List ℕ → ℕ → Outcome
comes_to expanding bytes room = expand bytes room
comes_to normalising bytes room = normalise bytes room
comes_to (scheduling budget) bytes room = scheduled bytes budget room
