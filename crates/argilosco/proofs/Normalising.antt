-- What normalising comes to by its number: refused, or done.
use Prim.Native.Nat.{ℕ, zero, suc}
use mathlib.Core.Path.{◌≡◌, refl}
use mathlib.Core.List.{List}
use Rattle.records.specs.Outcome.{refused, done}
use Rattle.normal.specs.Call.{normal_bytes, normalise_number, normalise}

module _ (bytes : List ℕ) (room : ℕ) where
  -- with a number from 1 on it is refused
  pub normalise_refused : (number : ℕ) → (number ≡ 0 → ⊥) → normalise_number bytes room ≡ number → normalise bytes room ≡ refused number 0
  unfolding normalise
  normalise_refused zero some e = absurd (some refl)
  normalise_refused (suc n) some e = rw e

  -- with 0 it is done
  pub normalise_done : normalise_number bytes room ≡ 0 → normalise bytes room ≡ done 0 (normal_bytes bytes)
  unfolding normalise
  normalise_done e = rw e
