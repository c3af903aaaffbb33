-- Refusals 3 to 5 of a table of either kind, each as the first record at fault. They are judged once all records have been read.
use Rattle.std.specs.Prelude.{ℕ, ◌≡◌, Bool, false, not, ◌||◌, List, [], map, Option, Some, None, eqb, ltb}
use Rattle.laws.specs.Lists.{any, count, found, first_fault}
use Rattle.records.specs.Outcome.{refuse}
use Rattle.records.specs.Table.{decode}
use Rattle.tables.specs.Rules.{Rules}
use Rattle.tables.specs.Table.{read_number}

-- what is given is this number
abbrev pub is_number : ℕ → Option ℕ → Bool
is_number n None = false
is_number n (Some m) = eqb m n

module _ {A : Type 0} (rules : Rules A) where
  -- a record gives this number
  abbrev pub gives : ℕ → A → Bool
  gives n r = is_number n (rules.number r)

  -- by number, whether some record gives it
  unfoldable pub marks : List A → List Bool
  marks table = map (λ n. any (gives n) table) (count 0 256)

  -- a number that is given is over the largest, or given by an earlier record
  abbrev pub number_at_fault : List A → Option ℕ → Bool
  number_at_fault before None = false
  number_at_fault before (Some n) = ltb rules.largest n || any (gives n) before

  -- 3: "a .. number over .., or one .. given twice": it repeats that of an earlier record
  abbrev pub bad_number : List A → A → Bool
  bad_number before r = number_at_fault before (rules.number r)

  -- two numbers that are joined are one, or one of them is not given by the table
  abbrev pub ends_at_fault : List A → Option (ℕ × ℕ) → Bool
  ends_at_fault table None = false
  ends_at_fault table (Some ends) = eqb ends.0 ends.1 || not (any (gives ends.0) table) || not (any (gives ends.1) table)

  -- 5: "a flow or link that names itself, or a pass or job not in the table"
  abbrev pub loose : List A → A → Bool
  loose table r = ends_at_fault table (rules.ends r)

  -- 3: the first record at fault
  unfoldable pub fault3 : List A → Option ℕ
  fault3 = first_fault bad_number [] 0

  -- 4: the first record at fault
  unfoldable pub fault4 : List A → Option ℕ
  fault4 = first_fault (λ before r. rules.bad_value r) [] 0

  -- 5: the first record at fault
  unfoldable pub fault5 : List A → Option ℕ
  fault5 table = first_fault (λ before r. loose table r) [] 0 table

  -- a table within the limits: none of 3, 4 and 5 holds of it
  pub record Sound (table : List A) : Type 0 where
    pub three : fault3 table ≡ None
    pub four : fault4 table ≡ None
    pub five : fault5 table ≡ None

  -- the lowest of 1 to 5 that holds of a table's bytes, else what comes after
  unfoldable pub table_number : ((ℕ → ℕ) → Option A) → List ℕ → ℕ → ℕ
  table_number reading bytes later =
      read_number reading bytes
      (refuse 3 (found (fault3 (decode reading bytes)))
      (refuse 4 (found (fault4 (decode reading bytes)))
      (refuse 5 (found (fault5 (decode reading bytes))) later)))
