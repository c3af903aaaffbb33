-- Laws on what a function gives at the numbers in a row, and on the larger of two numbers.
-- What is looked up in such a row is the function's value or, past its end, the default: by induction on the row.
use Prim.Native.Nat.{ℕ, zero, suc, ◌+◌, ◌≤◌, ◌<◌, max}
use native.Mathlib.Nat.{max-eq_left, max-eq_right, zero-add}
use native.Mathlib.Omega.{arith}
use mathlib.Core.Path.{◌≡◌, refl, ap, ◌∙◌}
use mathlib.Core.Bool.{Bool, true, false}
use mathlib.Core.List.{map}
use lib.Dec.{leb}
use lib.ListN.{length, get_or}
use borrow.Author.Tests.{leb-true, leb-false}
use Rattle.laws.specs.Lists.{count}

-- what holds of each of two numbers holds of the larger one
pub of_max : (P : ℕ → Type 0) {a b : ℕ} → P a → P b → P (max a b)
of_max P {a} {b} p q = go (leb a b) refl
  where
    go : (t : Bool) → leb a b ≡ t → P (max a b)
    go true e = rw (max-eq_right (leb-true a b e)) q
    go false e = let below : b ≤ a = omega (arith, leb-false a b e) in rw (max-eq_left below) p

module _ {A : Type 0} where
  -- a row has as many values as it has numbers
  pub length_row : (f : ℕ → A) (m n : ℕ) → length (map f (count m n)) ≡ n
  length_row f m zero = refl
  length_row f m (suc n) = ap suc (length_row f (m + 1) n)

  -- a function's value at a number of the row is looked up at its place
  pub get_d_count : (f : ℕ → A) (m n i : ℕ) (d : A) → i < n → get_or (map f (count m n)) i d ≡ f (m + i)
  get_d_count f m zero i d h = absurd (omega arith)
  get_d_count f m (suc n) zero d h = ap f (omega arith)
  get_d_count f m (suc n) (suc i) d h = get_d_count f (m + 1) n i d (omega arith) ∙ ap f (omega arith)

  -- in the row from 0 on, each number stands at its own place
  pub get_d_row : (f : ℕ → A) (n i : ℕ) (d : A) → i < n → get_or (map f (count 0 n)) i d ≡ f i
  get_d_row f n i d h = get_d_count f 0 n i d h ∙ ap f (zero-add i)

  -- what holds of the default and of a function's value holds of what is looked up in the row
  pub of_row : (P : A → Type 0) (f : ℕ → A) (n i : ℕ) (d : A) → P d → P (f i) → P (get_or (map f (count 0 n)) i d)
  of_row P f n i d p q = go 0 n i (zero-add i)
    where
      go : (m n k : ℕ) → m + k ≡ i → P (get_or (map f (count m n)) k d)
      go m zero k e = p
      go m (suc n) zero e = let same : m ≡ i = omega arith in rw same q
      go m (suc n) (suc k) e = go (m + 1) n k (omega arith)
