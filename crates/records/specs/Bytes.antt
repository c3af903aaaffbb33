-- Bytes and 16-bit numbers, and the bytes of one record of a table.
use Rattle.std.specs.Prelude.{ℕ, ◌+◌, ◌*◌, ◌/◌, ◌%◌, ◌<◌, Bool, List, [], ◌∷◌, map, get_or, eqb}
use Rattle.laws.specs.Lists.{Every, all, count}

-- each number of the list is a byte
abbrev pub Bytes : List ℕ → Type 0
Bytes = Every (λ b. b < 256)

-- "16-bit numbers are low byte first": the number that two bytes hold
abbrev pub word : ℕ → ℕ → ℕ
word low high = low + 256 * high

-- the two bytes of a 16-bit number
abbrev pub pair : ℕ → List ℕ
pair n = n % 256 ∷ n / 256 % 256 ∷ []

-- byte k of those from `at` on
abbrev pub bytes_from : List ℕ → ℕ → ℕ → ℕ
bytes_from bytes at k = get_or bytes (at + k) 0

-- "Every table is a run of 12-byte records": byte k of the record at a place
abbrev pub record_at : List ℕ → ℕ → ℕ → ℕ
record_at bytes place = bytes_from bytes (12 * place)

-- the twelve bytes of a record, given byte by byte
abbrev pub twelve : (ℕ → ℕ) → List ℕ
twelve b = map b (count 0 12)

-- "Bytes marked z are zero": the n bytes from k on are
abbrev pub zeros : (ℕ → ℕ) → ℕ → ℕ → Bool
zeros b k n = all (λ i. eqb (b i) 0) (count k n)
