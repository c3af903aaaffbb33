-- One round of the closing of gaps, over any numbers f i j of which 0 says that no chain leads from i to j.
-- f is closed at a job m when no two chains that join at m make more than f has. The round through k closes f at k, and keeps it closed wherever it was: of two chains
-- that join at m one may have gone through k, but not both, as between their two visits lies a ring at k. What it takes is that joining is monotone and associative.
use Prim.Native.Nat.{ℕ, zero, suc, ◌+◌, ◌≤◌, ◌<◌, max}
use native.Mathlib.Nat.{max-zero}
use native.Mathlib.Omega.{arith}
use mathlib.Core.Path.{◌≡◌, refl, sym, ◌∙◌}
use Rattle.laws.proofs.Rows.{of_max}
use Rattle.normal.specs.Gaps.{joined}

-- a number for every two jobs
abbrev pub Cells : Type 0
Cells = ℕ → ℕ → ℕ

-- with no chain nothing joins
pub joined_zero : (a : ℕ) → joined a 0 ≡ 0
joined_zero zero = refl
joined_zero (suc a) = refl

-- two chains that are there join to their sum
pub joined_sum : (a b : ℕ) → 0 < a → 0 < b → joined a b ≡ a + b
joined_sum zero b p q = absurd (omega arith)
joined_sum (suc a) zero p q = absurd (omega arith)
joined_sum (suc a) (suc b) p q = refl

-- joining is monotone
joined_le : (a b c d : ℕ) → a ≤ c → b ≤ d → joined a b ≤ joined c d
joined_le zero b c d p q = omega arith
joined_le (suc a) zero c d p q = omega arith
joined_le (suc a) (suc b) c d p q = omega (arith, joined_sum c d (omega arith) (omega arith))

-- joining is associative
joined_assoc : (a b c : ℕ) → joined (joined a b) c ≡ joined a (joined b c)
joined_assoc zero b c = refl
joined_assoc (suc a) zero c = refl
joined_assoc (suc a) (suc b) zero = joined_zero (suc a + suc b)
joined_assoc (suc a) (suc b) (suc c) = joined_sum (suc a + suc b) (suc c) (omega arith) (omega arith) ∙ omega (arith, joined_sum (suc a) (suc b + suc c) (omega arith) (omega arith))

-- what bounds either of two chains joined with either of two more bounds the longer joined with the longer
longer_joined : (a b c d e : ℕ) → joined a c ≤ e → joined a d ≤ e → joined b c ≤ e → joined b d ≤ e → joined (max a b) (max c d) ≤ e
longer_joined a b c d e ac ad bc bd = of_max (λ x. joined x (max c d) ≤ e) {a = a} {b = b} (of_max (λ y. joined a y ≤ e) {a = c} {b = d} ac ad) (of_max (λ y. joined b y ≤ e) {a = c} {b = d} bc bd)

-- two chains that join at m make no more than f has
abbrev pub Closed : Cells → ℕ → Type 0
Closed f m = (i j : ℕ) → joined (f i m) (f m j) ≤ f i j

-- where f is above 0, P holds of the two jobs and that sum
abbrev pub Attains : (ℕ → ℕ → ℕ → Type 0) → Cells → Type 0
Attains P f = (i j g : ℕ) → f i j ≡ suc g → P i j (suc g)

-- g is f after the round through k
abbrev pub Passed : ℕ → Cells → Cells → Type 0
Passed k f g = (i j : ℕ) → g i j ≡ max (f i j) (joined (f i k) (f k j))

module _ (k : ℕ) (f g : Cells) (passed : Passed k f g) where
  -- no cell shrinks
  pub grows : (i j : ℕ) → f i j ≤ g i j
  grows i j = omega (arith, passed i j)

  -- a property that passes on from two chains to the one they join to holds after the round too
  pub attains : (P : ℕ → ℕ → ℕ → Type 0) → ((i m j a b : ℕ) → P i m a → P m j b → P i j (a + b)) → Attains P f → Attains P g
  attains P join h i j n e = of_max (λ x. x ≡ suc n → P i j (suc n)) (h i j n) (go (f i k) (f k j) refl refl) (sym (passed i j) ∙ e)
    where
      go : (a b : ℕ) → f i k ≡ a → f k j ≡ b → joined a b ≡ suc n → P i j (suc n)
      go zero b p q e = absurd (omega arith)
      go (suc a) zero p q e = absurd (omega arith)
      go (suc a) (suc b) p q e = rw e at (join i k j (suc a) (suc b) (h i k a p) (h k j b q))

  -- where no ring goes through k, the round leaves k's row and column as they are
  module _ (none : f k k ≡ 0) where
    row_stays : (j : ℕ) → g k j ≡ f k j
    row_stays j = passed k j ∙ rw none (max-zero (f k j))

    column_stays : (i : ℕ) → g i k ≡ f i k
    column_stays i = passed i k ∙ rw (none, joined_zero) (max-zero (f i k))

    -- the round closes f at k
    pub closes : Closed g k
    closes i j = rw (row_stays j, column_stays i) (omega (arith, passed i j))

    -- and keeps it closed wherever it was
    pub stays_closed : (m : ℕ) → Closed f m → Closed g m
    stays_closed m closed i j = rw (passed i m, passed m j, passed i j) (longer_joined (f i m) (joined (f i k) (f k m)) (f m j) (joined (f m k) (f k j)) _ (omega (arith, closed i j)) (omega (arith, to_k)) (omega (arith, from_k)) (omega (arith, twice)))
      where
        to_k : joined (f i m) (joined (f m k) (f k j)) ≤ joined (f i k) (f k j)
        to_k = rw (← joined_assoc (f i m) (f m k) (f k j)) (joined_le (joined (f i m) (f m k)) (f k j) _ (f k j) (closed i k) (omega arith))

        from_k : joined (joined (f i k) (f k m)) (f m j) ≤ joined (f i k) (f k j)
        from_k = rw (joined_assoc (f i k) (f k m) (f m j)) (joined_le (f i k) (joined (f k m) (f m j)) (f i k) _ (omega arith) (closed k j))

        twice : joined (joined (f i k) (f k m)) (joined (f m k) (f k j)) ≡ 0
        twice = let between : joined (f k m) (f m k) ≡ 0 = omega (arith, closed k k) in rw (joined_assoc (f i k) (f k m) _, ← joined_assoc (f k m) (f m k) (f k j), between) (joined_zero (f i k))
