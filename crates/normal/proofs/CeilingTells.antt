-- A square of gaps under a ceiling above 48,000 tells the same of 7 and of 8, and where neither holds it is the square of gaps itself.
-- A cell under the ceiling is 0 exactly when the cell is. A gap above the ceiling makes the job it leads to late, under the ceiling too: cutting down the gaps cuts an earliest start down to the ceiling at most.
use Prim.Native.Nat.{ℕ, zero, suc, ◌+◌, ◌<◌, ◌≤◌, min}
use native.Mathlib.Nat.{min-zero}
use native.Mathlib.Omega.{arith}
use mathlib.Core.Path.{◌≡◌, refl, sym, ap, ap₂, ◌∙◌}
use mathlib.Core.Bool.{Bool, true, not, ◌||◌}
use mathlib.Core.List.{List, [], ◌∷◌, map, Memᴰ}
use lib.Dec.{eqb}
use lib.ListN.{get_or, get_or-map}
use borrow.Author.Tests.{ltb-true, lt-ltb, eqb-true, eq-eqb}
use Rattle.laws.specs.Lists.{count, any, largest, Every}
use Rattle.laws.proofs.Members.{same_test}
use Rattle.records.specs.declared.JobRecord.{JobRecord}
use Rattle.jobs.specs.Judge.{Sound}
use Rattle.jobs.specs.Jobs.{numbers, cost, release, deadline}
use Rattle.jobs.proofs.Sound.{deadline_limit}
use Rattle.normal.specs.Gaps.{Square, cell, gaps, ring_in}
use Rattle.normal.specs.Windows.{after, earliest_of, no_starts}
use Rattle.normal.specs.Arrays.{capped, RowWithin}
use Rattle.normal.proofs.Chains.{chain_from}
use Rattle.normal.proofs.WindowsEarliest.{Normalisable, gaps_right, gap, gap_chain, chain_to, gap_earliest, earliest_ends}
use Rattle.normal.proofs.Ceiling.{within_stays}
use Rattle.normal.proofs.StartsLoop.{is_late, starts_late}

-- tests that agree on each element agree on the list
any_same : {A : Type 0} (p q : A → Bool) (xs : List A) → ((x : A) → Memᴰ x xs → p x ≡ q x) → any p xs ≡ any q xs
any_same p q [] h = refl
any_same p q (x ∷ xs) h = ap₂ ◌||◌ (h x (Memᴰ.head refl)) (any_same p q xs (λ y m. h y (Memᴰ.tail m)))

-- what holds of whatever is looked up holds of every element
get_d_every : {A : Type 0} (P : A → Type 0) (xs : List A) (d : A) → ((k : ℕ) → P (get_or xs k d)) → Every P xs
get_d_every P [] d h = tt
get_d_every P (x ∷ xs) d h = (h 0, get_d_every P xs d (λ k. h (suc k)))

module _ (most : ℕ) where
  -- a cell under the ceiling
  pub cell_capped : (square : Square) (i j : ℕ) → cell (capped most square) i j ≡ min most (cell square i j)
  unfolding capped
  cell_capped square i j =
      ap (λ row. get_or row j 0) (get_or-map (map (min most)) square i [])
      ∙ ap (get_or (map (min most) (get_or square i [])) j) (sym (min-zero most))
      ∙ get_or-map (min most) (get_or square i []) j 0

  -- is 0 exactly when the cell is, so that rings show as they did
  pub ring_capped : 0 < most → (square : Square) → ring_in (capped most square) ≡ ring_in square
  unfolding ring_in
  ring_capped positive square = any_same _ _ (count 0 48) (λ i m. ap not (same_test _ _ (down i, up i)))
    where
      down : (i : ℕ) → eqb (cell (capped most square) i i) 0 ≡ true → eqb (cell square i i) 0 ≡ true
      down i e = eq-eqb (cell square i i) 0 (omega (arith, eqb-true (cell (capped most square) i i) 0 e, cell_capped square i i))

      up : (i : ℕ) → eqb (cell square i i) 0 ≡ true → eqb (cell (capped most square) i i) 0 ≡ true
      up i e = eq-eqb (cell (capped most square) i i) 0 (omega (arith, eqb-true (cell square i i) 0 e, cell_capped square i i))

  -- a time and the gap after it, under the ceiling
  after_capped : (time gap : ℕ) → (after time (min most gap) ≤ after time gap) × (min most (after time gap) ≤ after time (min most gap))
  after_capped time zero = rw (min-zero most) (omega arith)
  after_capped time (suc gap) = go (min most (suc gap)) refl
    where
      go : (m : ℕ) → min most (suc gap) ≡ m → (after time m ≤ time + suc gap) × (min most (time + suc gap) ≤ after time m)
      go zero e = omega arith
      go (suc m) e = omega arith

  -- so with the largest of such times
  largest_capped : (f g : ℕ → ℕ) (xs : List ℕ) → ((x : ℕ) → (g x ≤ f x) × (min most (f x) ≤ g x)) → (largest (map g xs) ≤ largest (map f xs)) × (min most (largest (map f xs)) ≤ largest (map g xs))
  largest_capped f g [] h = omega arith
  largest_capped f g (x ∷ xs) h = let here = h x in let rest = largest_capped f g xs h in (omega arith, omega arith)

  module _ (table : List JobRecord) (square : Square) where
    -- an earliest start is cut down to the ceiling at most
    earliest_capped : (j : ℕ) → (earliest_of table (capped most square) j ≤ earliest_of table square j) × (min most (earliest_of table square j) ≤ earliest_of table (capped most square) j)
    unfolding earliest_of
    earliest_capped j =
        let both = largest_capped (λ i. after (release table i) (cell square i j)) (λ i. after (release table i) (cell (capped most square) i j)) (numbers table) (λ i. rw (cell_capped square i j) (after_capped (release table i) (cell square i j))) in
        (omega arith, omega arith)

    -- a job is late under a ceiling above its deadline exactly when it is late
    late_capped : (j : ℕ) → deadline table j < most → is_late table (capped most square) j ≡ is_late table square j
    late_capped j h = let both = earliest_capped j in same_test _ _ (
      λ e. lt-ltb (deadline table j) (earliest_of table square j + cost table j) (omega (arith, ltb-true (deadline table j) (earliest_of table (capped most square) j + cost table j) e)),
      λ e. lt-ltb (deadline table j) (earliest_of table (capped most square) j + cost table j) (omega (arith, ltb-true (deadline table j) (earliest_of table square j + cost table j) e)),
    )

  -- so 8 shows as it did
  pub starts_capped : 48000 < most → (table : List JobRecord) → Sound table → (square : Square) → no_starts table (capped most square) ≡ no_starts table square
  starts_capped h table sound square =
      starts_late table (capped most square)
      ∙ any_same _ _ (numbers table) (λ j m. late_capped table square j (omega (arith, deadline_limit table sound j m)))
      ∙ sym (starts_late table square)

  -- and where nothing is refused, no gap is above the ceiling
  pub gaps_capped : 48000 < most → {table : List JobRecord} → Normalisable table → capped most (gaps table) ≡ gaps table
  gaps_capped h {table} normalisable = within_stays most (gaps table) (get_d_every (RowWithin most) (gaps table) [] (λ i. get_d_every (λ x. x ≤ most) (get_or (gaps table) i []) 0 (λ j. small i j (gap table i j) refl)))
    where
      small : (i j g : ℕ) → gap table i j ≡ g → gap table i j ≤ most
      small i j zero e = omega arith
      small i j (suc g) e =
          let positive : 0 < gap table i j = omega arith in
          let chain = gap_chain (gaps_right normalisable) i j positive in
          let to = chain_to normalisable.sound chain in
          omega (arith, gap_earliest table i j (chain_from table normalisable.sound chain) positive, earliest_ends normalisable j to, deadline_limit table normalisable.sound j to)
