-- A loop through the numbers from i on, up to n: what a word says of them is told by the number at hand and by those after it.
use Prim.Native.Nat.{ℕ, ◌+◌, ◌-◌, ◌<◌, ◌≤◌}
use mathlib.Core.Path.{◌≡◌, ap, ◌∙◌}
use mathlib.Core.Bool.{Bool, true, false}
use mathlib.Core.List.{List, [], ◌∷◌, ◌++◌}
use Rattle.laws.specs.Lists.{keep, only, flat, count}
use Rattle.laws.proofs.Counting.{count_more, count_end}

module _ (p : ℕ → Bool) (i n : ℕ) where
  keep_more : i < n → keep p (count i (n - i)) ≡ only (p i) i ++ keep p (count (i + 1) (n - (i + 1)))
  keep_more h = ap (keep p) (count_more i n h)

  -- of the numbers that are kept, the number at hand is the next where the test holds
  pub keep_taken : i < n → p i ≡ true → keep p (count i (n - i)) ≡ i ∷ keep p (count (i + 1) (n - (i + 1)))
  keep_taken h e = keep_more h ∙ ap (λ t. only t i ++ keep p (count (i + 1) (n - (i + 1)))) e

  -- and is passed over where it does not
  pub keep_left : i < n → p i ≡ false → keep p (count i (n - i)) ≡ keep p (count (i + 1) (n - (i + 1)))
  keep_left h e = keep_more h ∙ ap (λ t. only t i ++ keep p (count (i + 1) (n - (i + 1)))) e

  -- at the end none is kept
  pub keep_none : n ≤ i → keep p (count i (n - i)) ≡ []
  keep_none h = ap (keep p) (count_end i n h)

module _ {A : Type 0} (f : ℕ → List A) (i n : ℕ) where
  -- of the numbers' own lists, one after another, that of the number at hand is the first
  pub flat_more : i < n → flat f (count i (n - i)) ≡ f i ++ flat f (count (i + 1) (n - (i + 1)))
  flat_more h = ap (flat f) (count_more i n h)

  -- at the end there is none
  pub flat_none : n ≤ i → flat f (count i (n - i)) ≡ []
  flat_none h = ap (flat f) (count_end i n h)
