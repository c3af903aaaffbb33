-- A table whose records can be read.
use Rattle.std.specs.Prelude.{ℕ, ◌≡◌, ◌*◌, List, length, Option, None}
use Rattle.laws.specs.Lists.{found}
use Rattle.records.specs.Outcome.{refuse}
use Rattle.records.specs.Table.{bad_length, read_all, unreadable}

-- the bytes are `count` whole records, each of which can be read
pub record Whole {A : Type 0} (reading : (ℕ → ℕ) → Option A) (bytes : List ℕ) (count : ℕ) : Type 0 where
  pub size : length bytes ≡ 12 * count
  pub readable : unreadable (read_all reading bytes) ≡ None

-- the lowest of 1 and 2 that holds of a table's bytes, else what comes after
unfoldable pub read_number : {A : Type 0} → ((ℕ → ℕ) → Option A) → List ℕ → ℕ → ℕ
read_number reading bytes later = refuse 1 (bad_length bytes) (refuse 2 (found (unreadable (read_all reading bytes))) later)
