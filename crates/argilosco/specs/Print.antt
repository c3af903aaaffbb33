-- What the print program writes, as text in ASCII.
use Rattle.std.specs.Prelude.{ℕ, zero, suc, ◌+◌, ◌/◌, ◌%◌, true, false, List, [], ◌∷◌, ◌++◌, ltb}
use Rattle.laws.specs.Lists.{flat}
use Rattle.records.specs.Record.{in_schedule}
use Rattle.records.specs.Table.{decode}
use Rattle.records.specs.Outcome.{Outcome}
use Rattle.records.specs.declared.Slot.{Slot}
use Rattle.search.specs.Call.{scheduled}

-- "in decimal": the digits of a number, the most significant first, with no zero before them; `more` digits may follow the first
unfoldable pub digits : ℕ → ℕ → List ℕ
digits zero n = (48 + n % 10) ∷ []
digits (suc more) n = elim (ltb n 10) [ true ↦ (48 + n) ∷ [] | false ↦ digits more (n / 10) ++ (48 + n % 10) ∷ [] ]

-- a 32-bit number has ten digits at most
abbrev pub decimal : ℕ → List ℕ
decimal = digits 9

-- "`job start end` in decimal, single spaces"; "Each line ends with a line feed"
unfoldable pub slot_line : Slot → List ℕ
slot_line s = decimal s.number ++ 32 ∷ decimal s.start ++ 32 ∷ decimal s.end ++ 10 ∷ []

-- "`opened N`"
unfoldable pub opened_line : ℕ → List ℕ
opened_line n = 0x6f ∷ 0x70 ∷ 0x65 ∷ 0x6e ∷ 0x65 ∷ 0x64 ∷ 32 ∷ decimal n ++ 10 ∷ []

-- "`refused R opened N`"
unfoldable pub refused_line : ℕ → ℕ → List ℕ
refused_line r n = 0x72 ∷ 0x65 ∷ 0x66 ∷ 0x75 ∷ 0x73 ∷ 0x65 ∷ 0x64 ∷ 32 ∷ decimal r ++ 32 ∷ opened_line n

-- "One line a slot ..; then `opened N`. Refused: one line"
unfoldable pub printed : Outcome → List ℕ
printed o =
    elim o.number [
      | zero ↦ flat slot_line (decode in_schedule o.bytes) ++ opened_line o.openings
      | suc r ↦ refused_line (suc r) o.openings
    ]

-- what the program writes for a job table: "Budget 100,000", and room for 48 slots
unfoldable pub printed_for : List ℕ → List ℕ
printed_for bytes = printed (scheduled bytes 100000 576)
