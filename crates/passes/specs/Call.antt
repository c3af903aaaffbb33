-- What expanding a table comes to: "Expanding gives 0 to 6 and 9".
use Rattle.std.specs.Prelude.{ℕ, List, length, ltb}
use Rattle.laws.specs.Lists.{found}
use Rattle.records.specs.Record.{in_passes, job_bytes}
use Rattle.records.specs.Table.{bad_length, read_all, unreadable, decode, encode}
use Rattle.records.specs.Outcome.{Outcome, refuse, done, unless_refused}
use Rattle.records.specs.declared.PassRecord.{PassRecord}
use Rattle.passes.specs.Judge.{fault3, fault4, fault5}
use Rattle.passes.specs.Expand.{expanded, too_large}

-- the records of a pass table
unfoldable pub pass_table : List ℕ → List PassRecord
pass_table bytes = decode in_passes bytes

-- the lowest of 1 to 6 that holds of a pass table, else what comes after
unfoldable pub passes_number : List ℕ → ℕ → ℕ
passes_number bytes later =
    refuse 1 (bad_length bytes)
    (refuse 2 (found (unreadable (read_all in_passes bytes)))
    (refuse 3 (found (fault3 (pass_table bytes)))
    (refuse 4 (found (fault4 (pass_table bytes)))
    (refuse 5 (found (fault5 (pass_table bytes)))
    (refuse 6 (too_large (pass_table bytes)) later)))))

-- the bytes of the expanded table
unfoldable pub expanded_bytes : List ℕ → List ℕ
expanded_bytes bytes = encode job_bytes (expanded (pass_table bytes))

-- 9: "output too short": "The room needed is exactly the records' length"
unfoldable pub expand_number : List ℕ → ℕ → ℕ
expand_number bytes room = passes_number bytes (refuse 9 (ltb room (length (expanded_bytes bytes))) 0)

-- expanding the table into an output of so much room
unfoldable pub expand : List ℕ → ℕ → Outcome
expand bytes room = unless_refused (expand_number bytes room) (done 0 (expanded_bytes bytes))
