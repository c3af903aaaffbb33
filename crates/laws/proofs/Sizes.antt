-- How long a list can be: rising numbers within a span are at most as many as the span is long, and lists that are joined are as long as all of them.
use Prim.Native.Nat.{ℕ, ◌+◌, ◌-◌, ◌*◌, ◌<◌, ◌≤◌}
use native.Mathlib.Nat.{mul-suc}
use native.Mathlib.Omega.{arith}
use mathlib.Core.Path.{◌≡◌, refl, ap}
use mathlib.Core.Bool.{Bool, true, false}
use mathlib.Core.List.{List, [], ◌∷◌, ◌++◌, map, Memᴰ}
use lib.ListN.{length, length-append}
use Rattle.laws.specs.Lists.{only, keep, Every, flat}
use Rattle.laws.proofs.Members.{every_member, Rising}

-- rising numbers from m up to but without e are at most e - m
pub rising_length : (m e : ℕ) (xs : List ℕ) → Rising xs → ((x : ℕ) → Memᴰ x xs → (m ≤ x) × (x < e)) → length xs ≤ e - m
rising_length m e [] rising inside = omega arith
rising_length m e (x ∷ xs) rising inside =
    let here = inside x (Memᴰ.head refl) in
    let later = rising_length (x + 1) e xs rising.1 (λ y n. let over = every_member (λ y. x < y) rising.0 y n in let within = inside y (Memᴰ.tail n) in (omega arith, within.1)) in
    omega arith

-- a function that rises on the elements of a rising list gives a rising list
pub map_rising : (f : ℕ → ℕ) (xs : List ℕ) → Rising xs → ((x y : ℕ) → Memᴰ x xs → Memᴰ y xs → x < y → f x < f y) → Rising (map f xs)
map_rising f [] rising up = tt
map_rising f (x ∷ xs) rising up = (over xs (λ y n. n), map_rising f xs rising.1 (λ y z m n. up y z (Memᴰ.tail m) (Memᴰ.tail n)))
  where
    over : (ys : List ℕ) → ((y : ℕ) → Memᴰ y ys → Memᴰ y xs) → Every (λ y. f x < y) (map f ys)
    over [] among = tt
    over (y ∷ ys) among =
        let there = among y (Memᴰ.head refl) in
        (up x y (Memᴰ.head refl) (Memᴰ.tail there) (every_member (λ y. x < y) rising.0 y there), over ys (λ z n. among z (Memᴰ.tail n)))

module _ {A B : Type 0} where
  -- lists of at most k elements, joined, are at most k for each
  pub flat_length : (g : A → List B) (k : ℕ) (xs : List A) → ((x : A) → Memᴰ x xs → length (g x) ≤ k) → length (flat g xs) ≤ k * length xs
  flat_length g k [] small = omega arith
  flat_length g k (x ∷ xs) small =
      omega (arith, length-append (g x) (flat g xs), small x (Memᴰ.head refl), flat_length g k xs (λ y n. small y (Memᴰ.tail n)), mul-suc k (length xs))

  -- a function's values at the elements kept are those of each element, where it is kept
  pub map_keep : (f : A → B) (p : A → Bool) (xs : List A) → map f (keep p xs) ≡ flat (λ x. only (p x) (f x)) xs
  map_keep f p [] = refl
  map_keep f p (x ∷ xs) = step (p x) (map_keep f p xs)
    where
      step : (t : Bool) → map f (keep p xs) ≡ flat (λ x. only (p x) (f x)) xs → map f (only t x ++ keep p xs) ≡ only t (f x) ++ flat (λ x. only (p x) (f x)) xs
      step true e = ap (λ ys. f x ∷ ys) e
      step false e = e
