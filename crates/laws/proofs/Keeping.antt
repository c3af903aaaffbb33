-- The numbers from m up to an end of which a test holds; they rise, and rising numbers are told by which they are. And a test that passes on a whole list.
use Prim.Native.Nat.{ℕ, ◌-◌, ◌<◌}
use native.Mathlib.Omega.{arith}
use mathlib.Core.Path.{◌≡◌, refl, sym, ap, ap₂}
use mathlib.Core.Bool.{Bool, true, ◌&&◌}
use mathlib.Core.Logic.{◌↔◌, ◌⊎◌, inl, inr}
use mathlib.Core.List.Memᴰ
use mathlib.Core.List.{List, [], ◌∷◌, map, Memᴰ}
use Rattle.laws.specs.Lists.{all, keep, count, Every}
use Rattle.laws.proofs.Members.{every_member, member_every, Rising}
use Rattle.laws.proofs.Tests.{all_means}

module _ (p : ℕ → Bool) where
  -- the numbers from m up to the end of which the test holds
  abbrev pub keep_from : ℕ → ℕ → List ℕ
  keep_from m end = keep p (count m (end - m))

  -- from 0 on they are all
  pub keep_start : (end : ℕ) → keep_from 0 end ≡ keep p (count 0 end)
  keep_start end = let z : end - 0 ≡ end = omega arith in rw z

-- rising lists of the same numbers are equal
pub rising_same : (xs ys : List ℕ) → Rising xs → Rising ys → ((n : ℕ) → Memᴰ n xs ↔ Memᴰ n ys) → xs ≡ ys
rising_same [] [] r s h = refl
rising_same [] (y ∷ ys) r s h = absurd (Memᴰ.not-nil ((h y).1 (Memᴰ.head refl)))
rising_same (x ∷ xs) [] r s h = absurd (Memᴰ.not-nil ((h x).0 (Memᴰ.head refl)))
rising_same (x ∷ xs) (y ∷ ys) r s h = ap₂ ◌∷◌ first (rising_same xs ys r.1 s.1 (λ n. (later r.0 first (h n).0, later s.0 (sym first) (h n).1)))
  where
    compare : (x ≡ y) ⊎ Memᴰ x ys → (y ≡ x) ⊎ Memᴰ y xs → x ≡ y
    compare (inl e) other = e
    compare (inr m) (inl e) = sym e
    compare (inr m) (inr n) = absurd (omega (arith, every_member (λ i. y < i) s.0 x m, every_member (λ i. x < i) r.0 y n))

    first : x ≡ y
    first = compare (Memᴰ.cases_cons ((h x).0 (Memᴰ.head refl))) (Memᴰ.cases_cons ((h y).1 (Memᴰ.head refl)))

    later : {a b n : ℕ} {us vs : List ℕ} → Every (λ i. a < i) us → a ≡ b → (Memᴰ n (a ∷ us) → Memᴰ n (b ∷ vs)) → Memᴰ n us → Memᴰ n vs
    later {a} {b} {n} {us} {vs} above e there m = step (Memᴰ.cases_cons (there (Memᴰ.tail m)))
      where
        step : (n ≡ b) ⊎ Memᴰ n vs → Memᴰ n vs
        step (inl same) = absurd (omega (arith, every_member (λ i. a < i) above n m))
        step (inr m) = m

-- a test that passes on the whole list is one that passes on each element
pub all_members : {A : Type 0} (p : A → Bool) (xs : List A) → (all p xs ≡ true) ↔ ((x : A) → Memᴰ x xs → p x ≡ true)
all_members p xs =
    let every = all_means {p = p} {P = λ x. p x ≡ true} (λ x. (λ h. h, λ h. h)) xs in
    (λ h. every_member (λ x. p x ≡ true) (every.0 h), λ h. every.1 (member_every (λ x. p x ≡ true) xs h))

-- tests that agree on each element pass on the whole list together
pub all_same : {A : Type 0} (p q : A → Bool) (xs : List A) → ((x : A) → Memᴰ x xs → p x ≡ q x) → all p xs ≡ all q xs
all_same p q [] h = refl
all_same p q (x ∷ xs) h = ap₂ ◌&&◌ (h x (Memᴰ.head refl)) (all_same p q xs (λ y m. h y (Memᴰ.tail m)))

-- a test passes on a function's values if it passes on each element's value
pub all_map : {A B : Type 0} (p : B → Bool) (f : A → B) (xs : List A) → all p (map f xs) ≡ all (λ x. p (f x)) xs
all_map p f [] = refl
all_map p f (x ∷ xs) = ap (λ t. p (f x) && t) (all_map p f xs)
