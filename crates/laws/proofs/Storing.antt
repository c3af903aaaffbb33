-- Storing into a row of a function's values: the row of another function that differs at that place alone. By induction on the row, from any first number on.
use Prim.Native.Nat.{ℕ, zero, suc, ◌+◌, ◌≤◌, ◌<◌}
use native.Mathlib.Nat.{zero-add}
use native.Mathlib.Omega.{arith}
use mathlib.Core.Path.{◌≡◌, refl, ap, ap₂, ◌∙◌}
use mathlib.Core.List.{◌∷◌, map}
use lib.ListN.{set}
use Rattle.laws.specs.Lists.{count}

module _ {A : Type 0} (f g : ℕ → A) where
  -- functions that agree from m on give the same row from there
  row_same : (m n : ℕ) → ((i : ℕ) → m ≤ i → f i ≡ g i) → map f (count m n) ≡ map g (count m n)
  row_same m zero h = refl
  row_same m (suc n) h = ap₂ ◌∷◌ (h m (omega arith)) (row_same (m + 1) n (λ i l. h i (omega arith)))

  -- storing the other function's value where the two differ gives its row
  pub set_row : (n k : ℕ) (v : A) → k < n → v ≡ g k → ((i : ℕ) → (i ≡ k → ⊥) → f i ≡ g i) → set (map f (count 0 n)) k v ≡ map g (count 0 n)
  set_row n k v h e others = go 0 n k h (zero-add k)
    where
      go : (m n j : ℕ) → j < n → m + j ≡ k → set (map f (count m n)) j v ≡ map g (count m n)
      go m zero j h at = absurd (omega arith)
      go m (suc n) zero h at = ap₂ ◌∷◌ (e ∙ ap g (omega arith)) (row_same (m + 1) n (λ i l. others i (omega arith)))
      go m (suc n) (suc j) h at = ap₂ ◌∷◌ (others m (omega arith)) (go (m + 1) n j (omega arith) (omega arith))
