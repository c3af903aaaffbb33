-- A table as its records: decoded one after another, and encoded again. `read` says what a record of this kind of table is, and `write` its bytes.
use Rattle.std.specs.Prelude.{ℕ, zero, suc, ◌+◌, ◌/◌, ◌%◌, Bool, not, ◌||◌, List, [], ◌∷◌, length, eqb, ltb, Option, None, Some}
use Rattle.laws.specs.Lists.{flat, found, first_fault}
use Rattle.records.specs.Bytes.{record_at}

-- 1: "length no multiple of 12, or over 49,152 bytes (4,096 records)"
unfoldable pub bad_length : List ℕ → Bool
bad_length bytes = not (eqb (length bytes % 12) 0) || ltb 49152 (length bytes)

module _ {A : Type 0} where
  -- "records are read one after another": the n records from a place on, each as it is read
  unfoldable pub reads : ((ℕ → ℕ) → Option A) → List ℕ → ℕ → ℕ → List (Option A)
  reads read bytes place zero = []
  reads read bytes place (suc n) = read (record_at bytes place) ∷ reads read bytes (place + 1) n

  -- the records of a whole table, each as it is read
  unfoldable pub read_all : ((ℕ → ℕ) → Option A) → List ℕ → List (Option A)
  read_all read bytes = reads read bytes 0 (length bytes / 12)

  -- 2: "kind not of this table, or a z byte that is not zero": the first record that cannot be read
  unfoldable pub unreadable : List (Option A) → Option ℕ
  unreadable = first_fault (λ before r. not (found r)) [] 0

  -- the records that could be read
  unfoldable pub readable : List (Option A) → List A
  readable [] = []
  readable (None ∷ rs) = readable rs
  readable (Some r ∷ rs) = r ∷ readable rs

  -- decoding: the records of a table
  unfoldable pub decode : ((ℕ → ℕ) → Option A) → List ℕ → List A
  decode read bytes = readable (read_all read bytes)

  -- encoding: the records' bytes, one after another
  unfoldable pub encode : (A → List ℕ) → List A → List ℕ
  encode write = flat write
