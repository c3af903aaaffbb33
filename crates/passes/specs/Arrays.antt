-- A table's passes as the code holds them: by pass number.
use Rattle.std.specs.Prelude.{ℕ, ◌*◌, ◌≡◌, cond, List, map, length, Option, None, Some}
use Rattle.std.proofs.Math.Seq.{paste}
use Rattle.laws.specs.Lists.{any, count}
use Rattle.records.specs.Record.{job_bytes}
use Rattle.records.specs.Table.{encode}
use Rattle.records.specs.declared.Pass.{Pass}
use Rattle.records.specs.declared.PassRecord.{PassRecord}
use Rattle.records.specs.declared.JobRecord.{JobRecord}
use Rattle.passes.specs.Judge.{is_pass}
use Rattle.passes.specs.Expand.{pass_at, cycle_of}
use Rattle.passes.specs.Call.{pass_table, passes_number}
use Rattle.passes.specs.declared.Passes.{Passes}

-- the pass with a number, if the table has one
abbrev pub pass_of : List PassRecord → ℕ → Option Pass
pass_of table n = cond (any (is_pass n) table) (Some (pass_at table n)) None

-- the passes by number
unfoldable pub passes_of : List PassRecord → Passes
passes_of table = record { by_number = map (pass_of table) (count 0 24) }

-- passes and a cycle are those of a table that none of 1 to 6 refuses
pub record Accepted (bytes : List ℕ) (held : Passes) (ticks : ℕ) : Type 0 where
  pub number : passes_number bytes 0 ≡ 0
  pub passes : held ≡ passes_of (pass_table bytes)
  pub cycle : ticks ≡ cycle_of (pass_table bytes)

-- an output with these records from a place on
abbrev pub written_at : List ℕ → ℕ → List JobRecord → List ℕ
written_at out place rs = paste out (12 * place) (encode job_bytes rs) (12 * length rs)
