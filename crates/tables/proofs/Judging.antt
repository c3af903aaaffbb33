-- The number that judging a table comes to: each refusal is the lowest that holds, since those before it were found not to hold.
use Prim.Native.Nat.{ℕ}
use mathlib.Core.Path.{◌≡◌, ◌∙◌}
use mathlib.Core.Bool.{true, false}
use mathlib.Core.List.{List}
use Rattle.std.specs.Prelude.{Option, None, Some}
use Rattle.laws.specs.Lists.{found}
use Rattle.records.specs.Table.{bad_length, read_all, unreadable, decode}
use Rattle.tables.specs.Rules.{Rules}
use Rattle.tables.specs.Table.{read_number}
use Rattle.tables.specs.Judge.{fault3, fault4, fault5, table_number}

module _ {A : Type 0} (rules : Rules A) (reading : (ℕ → ℕ) → Option A) (bytes : List ℕ) where
  -- where 1 or 2 holds, it is given
  pub read_refused : (n : ℕ) → ((later : ℕ) → read_number reading bytes later ≡ n) → (later : ℕ) → table_number rules reading bytes later ≡ n
  unfolding table_number
  read_refused n e later = e _

  module _ (one : bad_length bytes ≡ false) (two : unreadable (read_all reading bytes) ≡ None) where
    -- where neither does, what comes after
    read_passed : (later : ℕ) → read_number reading bytes later ≡ later
    unfolding read_number
    read_passed later = rw (one, two)

    -- 3, where no lower number holds
    pub three_refused : found (fault3 rules (decode reading bytes)) ≡ true → (later : ℕ) → table_number rules reading bytes later ≡ 3
    unfolding table_number
    three_refused three later = read_passed _ ∙ rw three

    module _ (three : fault3 rules (decode reading bytes) ≡ None) where
      -- 4, where no lower number holds
      pub four_refused : {place : ℕ} → fault4 rules (decode reading bytes) ≡ Some place → (later : ℕ) → table_number rules reading bytes later ≡ 4
      unfolding table_number
      four_refused four later = read_passed _ ∙ rw (three, four)

      module _ (four : fault4 rules (decode reading bytes) ≡ None) where
        -- 5, where no lower number holds
        pub five_refused : {place : ℕ} → fault5 rules (decode reading bytes) ≡ Some place → (later : ℕ) → table_number rules reading bytes later ≡ 5
        unfolding table_number
        five_refused five later = read_passed _ ∙ rw (three, four, five)

        -- what comes after, where none holds
        pub none_refused : fault5 rules (decode reading bytes) ≡ None → (later : ℕ) → table_number rules reading bytes later ≡ later
        unfolding table_number
        none_refused five later = read_passed _ ∙ rw (three, four, five)
