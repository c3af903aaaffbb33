-- What a call comes to: its number, its openings and the bytes of the records that it writes, and what that makes of the output it was lent.
use Rattle.std.specs.Prelude.{ℕ, zero, suc, Bool, true, false, List, [], ◌++◌, length, drop}
use Rattle.records.specs.declared.refusal.Refusal.{Refusal}
use Rattle.records.specs.declared.refusal.Refusal.TheVariants.{Length, Unreadable, Number, Value, Loose, TooLarge, Ring, NoStarts, NoRoom}

-- a number where it holds, else what comes after it: in a row of these, numbers rising, "the lowest that holds .. is given, and only when it holds"
abbrev pub refuse : ℕ → Bool → ℕ → ℕ
refuse n true later = n
refuse n false later = later

-- the number of each refusal
abbrev pub number_of : Refusal → ℕ
number_of Length = 1
number_of Unreadable = 2
number_of Number = 3
number_of Value = 4
number_of Loose = 5
number_of TooLarge = 6
number_of Ring = 7
number_of NoStarts = 8
number_of NoRoom = 9

-- what a call comes to
pub record Outcome : Type 0 where
  pub number : ℕ
  pub openings : ℕ
  pub bytes : List ℕ

-- done: the records' bytes
abbrev pub done : ℕ → List ℕ → Outcome
done openings bytes = record { number = 0; openings = openings; bytes = bytes }

-- "Refused: bytes written 0, output unchanged"
abbrev pub refused : ℕ → ℕ → Outcome
refused number openings = record { number = number; openings = openings; bytes = [] }

-- what a call comes to that has a number from 1 on, and with 0 what comes after
abbrev pub unless_refused : ℕ → Outcome → Outcome
unless_refused zero later = later
unless_refused (suc n) later = refused (suc n) 0

-- "Done: the first bytes of the output hold the records, the rest is unchanged"; where there are no bytes, all of it is
abbrev pub overwrite : List ℕ → List ℕ → List ℕ
overwrite bytes before = bytes ++ drop (length bytes) before
