-- A 16-bit number and its two bytes. All of it is linear arithmetic with `/` and `%` by 256, which `omega` does.
use Prim.Native.Nat.{ℕ, ◌/◌, ◌%◌, ◌<◌}
use native.Mathlib.Omega.{arith}
use mathlib.Core.Path.{◌≡◌, refl}
use mathlib.Core.List.{[], ◌∷◌}
use Rattle.std.specs.Int.{to_le_bytes, w16}
use Rattle.records.specs.Bytes.{word, pair}
use Rattle.laws.proofs.Lists.{same}

-- the two bytes of a 16-bit number hold that number
pub word_pair : (n : ℕ) → n < 65536 → word (n % 256) (n / 256 % 256) ≡ n
word_pair n h = omega arith

-- the number that two bytes hold has those two bytes
pub pair_word : (low high : ℕ) → low < 256 → high < 256 → pair (word low high) ≡ low ∷ high ∷ []
pair_word low high l h = same _ _ (omega arith)

-- two bytes hold a 16-bit number
pub word_fits : (low high : ℕ) → low < 256 → high < 256 → word low high < 65536
word_fits low high l h = omega arith

-- the library's bytes of a 16-bit number, low one first, are its two bytes
pub le_pair : (n : ℕ) → to_le_bytes w16 n ≡ pair n
le_pair n = refl
