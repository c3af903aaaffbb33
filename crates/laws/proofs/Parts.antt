-- A list and its parts: two lists joined, and the elements kept.
-- Where one element is kept no longer, a sum over those kept falls by its share: the numbers rise, so that it stands in the list once.
use Prim.Native.Nat.{ℕ, ◌+◌, ◌<◌, ◌≤◌}
use native.Mathlib.Nat.{le_refl, le_trans, le_of_lt}
use native.Mathlib.Omega.{arith}
use mathlib.Core.Bool.{Bool, true, false}
use mathlib.Core.Path.{◌≡◌, refl, ap, sym, ◌∙◌}
use mathlib.Core.Logic.{◌⊎◌, inl, inr}
use mathlib.Core.List.Memᴰ
use mathlib.Core.List.{List, [], ◌∷◌, ◌++◌, map, Memᴰ}
use lib.ListN.{length}
use lib.Dec.{leb}
use borrow.Author.Tests.{leb-true, leb-false}
use Rattle.laws.specs.Lists.{only, keep, total, Every}
use Rattle.laws.proofs.Members.{every_member, keep_same, Rising}

module _ {A : Type 0} where
  -- every element of two lists joined has a property, if every element of each has it
  pub every_append : (P : A → Type 0) (xs ys : List A) → Every P xs → Every P ys → Every P (xs ++ ys)
  every_append P [] ys h k = k
  every_append P (x ∷ xs) ys h k = (h.0, every_append P xs ys h.1 k)

  -- a test that passes on each element keeps them all
  pub keep_all : (xs : List A) → keep (λ x. true) xs ≡ xs
  keep_all [] = refl
  keep_all (x ∷ xs) = ap (λ (l : List A). x ∷ l) (keep_all xs)

  -- a list is as long as a one for each of its elements comes to
  pub total_ones : (xs : List A) → total (map (λ x. 1) xs) ≡ length xs
  total_ones [] = refl
  total_ones (x ∷ xs) = omega (arith, total_ones xs)

  -- a list of length 0 has no elements
  pub length_none : (xs : List A) → length xs ≡ 0 → xs ≡ []
  length_none [] e = refl
  length_none (x ∷ xs) e = absurd (omega arith)

-- of the elements of a list that has some, one is least by a measure
pub least_by : {A : Type 0} (f : A → ℕ) (x : A) (xs : List A) → (y : A) × Memᴰ y (x ∷ xs) × ((z : A) → Memᴰ z (x ∷ xs) → f y ≤ f z)
least_by f x [] = (x, Memᴰ.head refl, λ z m. rw (Memᴰ.eq_of_singleton m) (le_refl (f x)))
least_by {A} f x (w ∷ xs) = choose (least_by f w xs)
  where
    choose : (y : A) × Memᴰ y (w ∷ xs) × ((z : A) → Memᴰ z (w ∷ xs) → f y ≤ f z) → (y : A) × Memᴰ y (x ∷ w ∷ xs) × ((z : A) → Memᴰ z (x ∷ w ∷ xs) → f y ≤ f z)
    choose r = step (leb (f x) (f r.0)) refl
      where
        first : f x ≤ f r.0 → (z : A) → (z ≡ x) ⊎ Memᴰ z (w ∷ xs) → f x ≤ f z
        first h z (inl e) = rw e (le_refl (f x))
        first h z (inr m) = le_trans h (r.2 z m)

        later : f r.0 < f x → (z : A) → (z ≡ x) ⊎ Memᴰ z (w ∷ xs) → f r.0 ≤ f z
        later h z (inl e) = rw e (le_of_lt h)
        later h z (inr m) = r.2 z m

        step : (t : Bool) → leb (f x) (f r.0) ≡ t → (y : A) × Memᴰ y (x ∷ w ∷ xs) × ((z : A) → Memᴰ z (x ∷ w ∷ xs) → f y ≤ f z)
        step true e = (x, Memᴰ.head refl, λ z m. first (leb-true (f x) (f r.0) e) z (Memᴰ.cases_cons m))
        step false e = (r.0, Memᴰ.tail r.1, λ z m. later (leb-false (f x) (f r.0) e) z (Memᴰ.cases_cons m))

-- keeping some of what a function gives is giving it for those that it is to be kept for
pub keep_map : {A B : Type 0} (p : B → Bool) (f : A → B) (xs : List A) → keep p (map f xs) ≡ map f (keep (λ x. p (f x)) xs)
keep_map p f [] = refl
keep_map {B = B} p f (x ∷ xs) = step (p (f x)) (keep_map p f xs)
  where
    step : (t : Bool) → keep p (map f xs) ≡ map f (keep (λ x. p (f x)) xs) → only t (f x) ++ keep p (map f xs) ≡ map f (only t x ++ keep (λ x. p (f x)) xs)
    step true e = ap (λ (l : List B). f x ∷ l) e
    step false e = e

-- of rising numbers one is kept no longer: the sum over those kept before is its share and the sum over those still kept
pub total_without : (f : ℕ → ℕ) (before after : ℕ → Bool) (k : ℕ) → before k ≡ true → after k ≡ false → ((n : ℕ) → (n ≡ k → ⊥) → after n ≡ before n)
    → (ns : List ℕ) → Rising ns → Memᴰ k ns → total (map f (keep before ns)) ≡ f k + total (map f (keep after ns))
total_without f before after k yes-before not_after others [] rises m = absurd (Memᴰ.not-nil m)
total_without f before after k yes-before not_after others (n ∷ ns) rises m = step (Memᴰ.cases_cons m) (total_without f before after k yes-before not_after others ns rises.1)
  where
    sum : (ℕ → Bool) → List ℕ → ℕ
    sum p l = total (map f (keep p l))

    first : (s t : Bool) → s ≡ true → t ≡ false → sum before ns ≡ sum after ns → total (map f (only s n ++ keep before ns)) ≡ f n + total (map f (only t n ++ keep after ns))
    first true true p q same = let z : ◌≡◌ {A = ℕ} 0 1 = cc in absurd (omega arith)
    first true false p q same = ap (λ (x : ℕ). f n + x) same
    first false t p q same = let z : ◌≡◌ {A = ℕ} 0 1 = cc in absurd (omega arith)

    later : (s t : Bool) → t ≡ s → sum before ns ≡ f k + sum after ns → total (map f (only s n ++ keep before ns)) ≡ f k + total (map f (only t n ++ keep after ns))
    later true true e below = omega arith
    later true false e below = let z : ◌≡◌ {A = ℕ} 0 1 = cc in absurd (omega arith)
    later false true e below = let z : ◌≡◌ {A = ℕ} 0 1 = cc in absurd (omega arith)
    later false false e below = below

    step : (k ≡ n) ⊎ Memᴰ k ns → (Memᴰ k ns → sum before ns ≡ f k + sum after ns) → sum before (n ∷ ns) ≡ f k + sum after (n ∷ ns)
    step (inl e) below =
        let same : keep before ns ≡ keep after ns = keep_same before after ns (λ x m. let above = every_member (λ y. n < y) rises.0 x m in sym (others x (λ (s : x ≡ k). omega arith))) in
        rw (e) (first (before n) (after n) (ap before (sym e) ∙ yes-before) (ap after (sym e) ∙ not_after) (ap (λ (l : List ℕ). total (map f l)) same))
    step (inr m) below = let above = every_member (λ y. n < y) rises.0 k m in later (before n) (after n) (others n (λ (s : n ≡ k). omega arith)) (below m)
