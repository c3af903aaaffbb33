-- The choice of links, cell by cell.
use Prim.Native.Nat.{ℕ, zero, suc, ◌+◌, ◌-◌, ◌<◌, ◌≤◌}
use mathlib.Core.Path.{◌≡◌, refl, ap, ◌∙◌}
use mathlib.Core.Bool.{cond}
use lib.Dec.{ltb}
use borrow.Author.Tests.{lt-ltb, le-ltb}
use Rattle.normal.specs.Chosen.{chosen_cell}

module _ (cost latest earliest : ℕ) where
  -- where no chain joins the pair, nothing is written
  pub chosen_none : (gap : ℕ) → gap ≡ 0 → chosen_cell cost latest earliest gap ≡ 0
  unfolding chosen_cell
  chosen_none gap e = rw e

  chosen_some : (gap : ℕ) → (gap ≡ 0 → ⊥) → chosen_cell cost latest earliest gap ≡ cond (ltb earliest (gap + latest)) (gap - cost + 1) 0
  unfolding chosen_cell
  chosen_some zero h = absurd (h refl)
  chosen_some (suc gap) h = refl

  -- a gap over what the windows say is written
  pub chosen_over : (gap : ℕ) → (gap ≡ 0 → ⊥) → earliest < gap + latest → chosen_cell cost latest earliest gap ≡ gap - cost + 1
  chosen_over gap h over = chosen_some gap h ∙ ap (λ t. cond t (gap - cost + 1) 0) (lt-ltb _ _ over)

  -- any other is not
  pub chosen_under : (gap : ℕ) → (gap ≡ 0 → ⊥) → gap + latest ≤ earliest → chosen_cell cost latest earliest gap ≡ 0
  chosen_under gap h under = chosen_some gap h ∙ ap (λ t. cond t (gap - cost + 1) 0) (le-ltb _ _ under)
