-- The cycle is the least common multiple of all periods: each period divides it, and it divides whatever all of them divide, so that it is the least such number above 0.
-- By induction on the passes, each of which joins the cycle by the law of two numbers.
use Prim.Native.Nat.{ℕ, ◌<◌, ◌≤◌, ◌∣◌}
use native.Mathlib.Nat.{dvd_refl, dvd_trans, le_of_dvd, one-dvd}
use native.Mathlib.Omega.{arith}
use mathlib.Core.Path.{◌≡◌, refl}
use mathlib.Core.Logic.{◌⊎◌, inl, inr}
use mathlib.Core.List.Memᴰ
use mathlib.Core.List.{List, [], ◌∷◌, Memᴰ}
use Rattle.records.specs.declared.Pass.{Pass}
use Rattle.records.specs.declared.PassRecord.{PassRecord}
use Rattle.passes.specs.Expand.{lcm, cycle_from, cycle_of, passes_in_order}
use Rattle.passes.proofs.Multiples.{lcm_first, lcm_second, lcm_from, lcm_divides}
use Rattle.passes.proofs.Numbers.{cycle_from_lem}
use Rattle.passes.proofs.Sound.{Sound, order_limits}

-- each pass listed has a period above 0
abbrev Periods : List Pass → Type 0
Periods ps = (p : Pass) → Memᴰ p ps → 0 < p.period

-- the cycle of passes from c on is a multiple of c
from_divides : (c : ℕ) (ps : List Pass) → c ∣ cycle_from c ps
unfolding cycle_from
from_divides c [] = dvd_refl c
from_divides c (p ∷ ps) = dvd_trans c (lcm_first c p.period) (from_divides (lcm c p.period) ps)

-- it is a multiple of each period
period_divides : (c : ℕ) (ps : List Pass) → Periods ps → (p : Pass) → Memᴰ p ps → p.period ∣ cycle_from c ps
unfolding cycle_from
period_divides c [] above p m = absurd (Memᴰ.not-nil m)
period_divides c (q ∷ ps) above p m = step (Memᴰ.cases_cons m) (period_divides (lcm c q.period) ps (λ r n. above r (Memᴰ.tail n)) p)
  where
    step : (p ≡ q) ⊎ Memᴰ p ps → (Memᴰ p ps → p.period ∣ cycle_from (lcm c q.period) ps) → p.period ∣ cycle_from (lcm c q.period) ps
    step (inl e) below = rw e (dvd_trans q.period (lcm_second c q.period (above q (Memᴰ.head refl))) (from_divides (lcm c q.period) ps))
    step (inr n) below = below n

-- it divides what c and all periods divide
divides_all : (c : ℕ) (ps : List Pass) → Periods ps → 0 < c → (x : ℕ) → c ∣ x → ((p : Pass) → Memᴰ p ps → p.period ∣ x) → cycle_from c ps ∣ x
unfolding cycle_from
divides_all c [] above pos x h each = h
divides_all c (q ∷ ps) above pos x h each =
    divides_all (lcm c q.period) ps (λ r n. above r (Memᴰ.tail n)) (omega (arith, lcm_from c q.period)) x
    (lcm_divides c q.period x pos (above q (Memᴰ.head refl)) h (each q (Memᴰ.head refl))) (λ p n. each p (Memᴰ.tail n))

-- the cycle is at least 1
pub cycle_above : (table : List PassRecord) → 0 < cycle_of table
unfolding cycle_of
cycle_above table = cycle_from_lem 1 (passes_in_order table)

-- "The cycle is the least common multiple of all periods": it is a multiple of each, divides every common multiple, and is at most every one above 0
pub record LeastCommon (periods : ℕ → Type 0) (c : ℕ) : Type 0 where
  pub multiple : (t : ℕ) → periods t → t ∣ c
  pub divides : (x : ℕ) → ((t : ℕ) → periods t → t ∣ x) → c ∣ x
  pub least : (x : ℕ) → 0 < x → ((t : ℕ) → periods t → t ∣ x) → c ≤ x

-- a number is the period of one of the passes
abbrev pub PeriodIn : List Pass → ℕ → Type 0
PeriodIn ps t = (p : Pass) × Memᴰ p ps × (p.period ≡ t)

-- the cycle of a pass table is that of its passes' periods
pub cycle_least : (table : List PassRecord) → Sound table → LeastCommon (PeriodIn (passes_in_order table)) (cycle_of table)
unfolding cycle_of
cycle_least table sound = record {
  multiple = λ t h. rw h.2 at (period_divides 1 (passes_in_order table) above h.0 h.1);
  divides = all;
  least = λ x pos each. le_of_dvd pos (all x each);
}
  where
    above : Periods (passes_in_order table)
    above p m = (order_limits table sound p m).1.0

    all : (x : ℕ) → ((t : ℕ) → PeriodIn (passes_in_order table) t → t ∣ x) → cycle_from 1 (passes_in_order table) ∣ x
    all x each = divides_all 1 (passes_in_order table) above (omega arith) x (one-dvd x) (λ p m. each p.period (p, m, refl))

-- for no passes it is 1
pub cycle_none : cycle_from 1 [] ≡ 1
unfolding cycle_from
cycle_none = refl
