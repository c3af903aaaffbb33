-- The links of a flow, instance by instance: instance i of the source is linked with the one instance of the target whose period starts with its own, if there is one.
-- The target's periods start at 0, t, 2·t, .. up to the cycle, so that x is one of these exactly when t divides it, and then it is number x / t.
use Prim.Native.Nat.{ℕ, zero, suc, ◌+◌, ◌-◌, ◌*◌, ◌/◌, ◌%◌, ◌<◌, ◌≤◌, ◌∣◌}
use native.Mathlib.Nat.{mul-mod_left, div-add-mod', div-lt_iff_lt-mul, eq_of_mul-eq-mul_right, div-mul-le_self, div-mul_cancel, mul-lt-mul_of_pos_right}
use native.Mathlib.Omega.{arith}
use mathlib.Core.Path.{◌≡◌, refl, sym, ap, ◌∙◌}
use mathlib.Core.Bool.{Bool, true, false}
use mathlib.Core.List.{List, [], ◌∷◌, ◌++◌, Memᴰ}
use lib.Dec.{eqb}
use borrow.Author.Tests.{eqb-true, eqb-false, eq-eqb, ne_eqb}
use Rattle.laws.specs.Lists.{count, only, flat}
use Rattle.laws.proofs.Members.{count_member, flat_same, same_test}
use Rattle.records.specs.Record.{link}
use Rattle.records.specs.declared.Pass.{Pass}
use Rattle.records.specs.declared.Flow.{Flow}
use Rattle.passes.specs.Expand.{instances, first_job, pair_links, links_between}

module _ {A : Type 0} (h : ℕ → A) where
  -- numbered from 0 on, the one with number q, where q was passed
  passed : (q s n : ℕ) → q < s → flat (λ j. only (eqb q (j - 1)) (h (j - 1))) (count (s + 1) n) ≡ []
  passed q s zero l = refl
  passed q s (suc n) l = let other : eqb q (s + 1 - 1) ≡ false = ne_eqb q (s + 1 - 1) (omega arith) in rw other (passed q (s + 1) n (omega arith))

  -- and where it is still to come
  coming : (q s n : ℕ) → s ≤ q → q < s + n → flat (λ j. only (eqb q (j - 1)) (h (j - 1))) (count (s + 1) n) ≡ h q ∷ []
  coming q s zero l u = absurd (omega arith)
  coming q s (suc n) l u = step (eqb q (s + 1 - 1)) refl (coming q (s + 1) n)
    where
      step : (t : Bool) → eqb q (s + 1 - 1) ≡ t → (s + 1 ≤ q → q < s + 1 + n → flat (λ j. only (eqb q (j - 1)) (h (j - 1))) (count (s + 1 + 1) n) ≡ h q ∷ [])
          → only t (h (s + 1 - 1)) ++ flat (λ j. only (eqb q (j - 1)) (h (j - 1))) (count (s + 1 + 1) n) ≡ h q ∷ []
      step true e below =
          let here : s + 1 - 1 ≡ q = sym (eqb-true q (s + 1 - 1) e) in
          ap (λ rest. h (s + 1 - 1) ∷ rest) (passed q (s + 1) n (omega arith)) ∙ ap (λ k. h k ∷ []) here
      step false e below = let other : q ≡ s + 1 - 1 → ⊥ = eqb-false q (s + 1 - 1) e in below (omega arith) (omega arith)

  -- of n periods of t ticks, the one that starts at x
  pub one_pair : (x t n : ℕ) → 0 < t → x < n * t → flat (λ j. only (eqb x ((j - 1) * t)) (h (j - 1))) (count 1 n) ≡ only (eqb (x % t) 0) (h (x / t))
  one_pair x t n pos small = step (eqb (x % t) 0) refl
    where
      none_starts : (xs : List ℕ) → eqb (x % t) 0 ≡ false → flat (λ j. only (eqb x ((j - 1) * t)) (h (j - 1))) xs ≡ []
      none_starts [] e = refl
      none_starts (j ∷ xs) e =
          let other : eqb x ((j - 1) * t) ≡ false = ne_eqb x ((j - 1) * t) (λ s. eqb-false (x % t) 0 e (ap (λ y. y % t) s ∙ mul-mod_left (j - 1) t)) in
          rw other (none_starts xs e)

      step : (b : Bool) → eqb (x % t) 0 ≡ b → flat (λ j. only (eqb x ((j - 1) * t)) (h (j - 1))) (count 1 n) ≡ only b (h (x / t))
      step true e =
          let whole : x ≡ x / t * t = omega (arith, div-add-mod' x t, eqb-true (x % t) 0 e) in
          let agree : (j : ℕ) → Memᴰ j (count 1 n) → only (eqb x ((j - 1) * t)) (h (j - 1)) ≡ only (eqb (x / t) (j - 1)) (h (j - 1)) =
          λ j m. ap (λ b. only b (h (j - 1))) (same_test (eqb x ((j - 1) * t)) (eqb (x / t) (j - 1)) (
            λ s. eq-eqb (x / t) (j - 1) (eq_of_mul-eq-mul_right t pos (x / t) (j - 1) (sym whole ∙ eqb-true x ((j - 1) * t) s)),
            λ s. eq-eqb x ((j - 1) * t) (whole ∙ ap (λ k. k * t) (eqb-true (x / t) (j - 1) s)),
          )) in
          flat_same _ _ (count 1 n) agree ∙ coming (x / t) 0 n (omega arith) (let inside : x / t < n = (div-lt_iff_lt-mul pos).1 small in omega arith)
      step false e = none_starts (count 1 n) e

-- within the cycle an instance's period starts before the cycle's end
pub starts_before : (cycle t i : ℕ) → 0 < t → 1 ≤ i → i ≤ cycle / t → (i - 1) * t < cycle
starts_before cycle t i pos low high =
    let below : i - 1 < cycle / t = omega arith in
    omega (arith, mul-lt-mul_of_pos_right below pos, div-mul-le_self cycle t)

-- the links of a flow between two passes whose periods are above 0, the target's dividing the cycle
pub links_matched : (cycle : ℕ) (ps : List Pass) (f : Flow) (p q : Pass) → 0 < p.period → 0 < q.period → q.period ∣ cycle
    → links_between cycle ps f p q
    ≡ flat (λ i. only (eqb ((i - 1) * p.period % q.period) 0) (link (first_job cycle ps p.number + (i - 1)) (first_job cycle ps q.number + (i - 1) * p.period / q.period) f.latency)) (count 1 (instances cycle p))
unfolding links_between pair_links instances
links_matched cycle ps f p q pp pq d =
    flat_same _ _ (count 1 (cycle / p.period)) (λ i m.
    let inside = (count_member 1 (cycle / p.period) i).0 m in
    let whole : cycle / q.period * q.period ≡ cycle = div-mul_cancel q.period d in
    one_pair (λ k. link (first_job cycle ps p.number + (i - 1)) (first_job cycle ps q.number + k) f.latency) ((i - 1) * p.period) q.period (cycle / q.period) pq
    (omega (arith, starts_before cycle p.period i pp inside.0 (omega arith))))
