-- The least common multiple: `lcm a b` is a multiple of both numbers, and divides every common multiple of them.
-- The multiples m, m + a, .. up to b·a are tried in turn, and b divides the last one; a common multiple that was not passed is not passed by the next step, as it is a multiple of a too.
use Prim.Native.Nat.{ℕ, zero, suc, ◌+◌, ◌-◌, ◌*◌, ◌%◌, ◌<◌, ◌≤◌, ◌∣◌}
use native.Mathlib.Nat.{zero-mul, suc-mul, dvd_refl, dvd-add, dvd-sub, dvd-mul_right, dvd-mod_iff, dvd_antisymm, dvd_of_mod-eq-zero, mod-eq-zero_of_dvd, mod-lt, le_of_dvd}
use native.Mathlib.Omega.{arith}
use mathlib.Core.Path.{◌≡◌, refl, ap, ◌∙◌}
use mathlib.Core.Bool.{Bool, true, false}
use lib.Dec.{eqb}
use borrow.Author.Tests.{eqb-true, eqb-false}
use Rattle.passes.specs.Expand.{multiple_from, lcm}

-- a multiple of a that is above another is at least a above it
pub next_multiple : (a m x : ℕ) → a ∣ m → a ∣ x → m < x → m + a ≤ x
next_multiple a m x hm hx l =
    let apart : 0 < x - m = omega arith in
    let step : a ≤ x - m = le_of_dvd apart (dvd-sub a hx hm) in
    omega arith

-- what is found is a multiple of b, if the last one tried is b·a
found_second : (a b n m : ℕ) → m + n * a ≡ b * a → b ∣ multiple_from a b m n
unfolding multiple_from
found_second a b zero m e = let last : m ≡ b * a = omega (arith, zero-mul a) in rw last (dvd-mul_right b a)
found_second a b (suc n) m e = step (eqb (m % b) 0) refl (found_second a b n (m + a) (omega (arith, suc-mul n a)))
  where
    step : (t : Bool) → eqb (m % b) 0 ≡ t → b ∣ multiple_from a b (m + a) n → b ∣ elim t [ true ↦ m | false ↦ multiple_from a b (m + a) n ]
    step true e below = dvd_of_mod-eq-zero b (eqb-true (m % b) 0 e)
    step false e below = below

-- it is a multiple of a, if the first one tried is
found_first : (a b n m : ℕ) → a ∣ m → a ∣ multiple_from a b m n
unfolding multiple_from
found_first a b zero m h = h
found_first a b (suc n) m h = step (eqb (m % b) 0) (found_first a b n (m + a) (dvd-add a h (dvd_refl a)))
  where
    step : (t : Bool) → a ∣ multiple_from a b (m + a) n → a ∣ elim t [ true ↦ m | false ↦ multiple_from a b (m + a) n ]
    step true below = h
    step false below = below

-- it is at least the first one tried
found_from : (a b n m : ℕ) → m ≤ multiple_from a b m n
unfolding multiple_from
found_from a b zero m = omega arith
found_from a b (suc n) m = step (eqb (m % b) 0) (found_from a b n (m + a))
  where
    step : (t : Bool) → m + a ≤ multiple_from a b (m + a) n → m ≤ elim t [ true ↦ m | false ↦ multiple_from a b (m + a) n ]
    step true below = omega arith
    step false below = omega arith

-- no common multiple from the first one tried on is below it
found_least : (a b n m x : ℕ) → a ∣ m → a ∣ x → b ∣ x → m ≤ x → multiple_from a b m n ≤ x
unfolding multiple_from
found_least a b zero m x hm ha hb l = l
found_least a b (suc n) m x hm ha hb l = step (eqb (m % b) 0) refl (found_least a b n (m + a) x (dvd-add a hm (dvd_refl a)) ha hb)
  where
    step : (t : Bool) → eqb (m % b) 0 ≡ t → (m + a ≤ x → multiple_from a b (m + a) n ≤ x) → elim t [ true ↦ m | false ↦ multiple_from a b (m + a) n ] ≤ x
    step true e below = l
    step false e below =
        let other : m ≡ x → ⊥ = λ s. eqb-false (m % b) 0 e (mod-eq-zero_of_dvd b (rw s hb)) in
        below (next_multiple a m x hm ha (omega arith))

-- the least common multiple is a multiple of the first number, and at least that number
pub lcm_first : (a b : ℕ) → a ∣ lcm a b
unfolding lcm
lcm_first a b = found_first a b (b - 1) a (dvd_refl a)

pub lcm_from : (a b : ℕ) → a ≤ lcm a b
unfolding lcm
lcm_from a b = found_from a b (b - 1) a

-- it is a multiple of the second number
pub lcm_second : (a b : ℕ) → 0 < b → b ∣ lcm a b
unfolding lcm
lcm_second a b hb =
    let last : b * a ≡ (b - 1) * a + a = ap (λ n. n * a) (omega arith) ∙ suc-mul (b - 1) a in
    found_second a b (b - 1) a (omega arith)

-- it is at most every common multiple above 0
pub lcm_least : (a b x : ℕ) → 0 < x → a ∣ x → b ∣ x → lcm a b ≤ x
unfolding lcm
lcm_least a b x px ha hb = found_least a b (b - 1) a x (dvd_refl a) ha hb (le_of_dvd px ha)

-- it divides every common multiple: what is left over would be a smaller one
pub lcm_divides : (a b x : ℕ) → 0 < a → 0 < b → a ∣ x → b ∣ x → lcm a b ∣ x
lcm_divides a b x pa pb ha hb = step (eqb (x % lcm a b) 0) refl
  where
    above : 0 < lcm a b
    above = omega (arith, lcm_from a b)

    step : (t : Bool) → eqb (x % lcm a b) 0 ≡ t → lcm a b ∣ x
    step true e = dvd_of_mod-eq-zero (lcm a b) (eqb-true (x % lcm a b) 0 e)
    step false e =
        let some_left : x % lcm a b ≡ 0 → ⊥ = eqb-false (x % lcm a b) 0 e in
        let small : x % lcm a b < lcm a b = mod-lt x above in
        let least = lcm_least a b (x % lcm a b) (omega arith) ((dvd-mod_iff a (lcm_first a b)).1 ha) ((dvd-mod_iff b (lcm_second a b pb)).1 hb) in
        absurd (omega arith)

-- the order of the two does not matter
pub lcm_comm : (a b : ℕ) → 0 < a → 0 < b → lcm a b ≡ lcm b a
lcm_comm a b pa pb =
    dvd_antisymm (lcm_divides a b (lcm b a) pa pb (lcm_second b a pa) (lcm_first b a)) (lcm_divides b a (lcm a b) pb pa (lcm_second a b pb) (lcm_first a b))
