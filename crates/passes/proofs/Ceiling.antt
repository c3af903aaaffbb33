-- The cycle as the code finds it: there is none over 48,000, and the search for it stops there.
-- A cycle only grows, so that once it has passed 48,000 the whole cycle has.
use Prim.Native.Nat.{ℕ, ◌+◌, ◌/◌, ◌%◌, ◌<◌, ◌≤◌, ◌∣◌}
use native.Mathlib.Nat.{div-le_self, dvd_refl, dvd-add, dvd_of_mod-eq-zero, mod-eq-zero_of_dvd}
use native.Mathlib.Omega.{arith}
use mathlib.Core.Path.{◌≡◌, refl, ap, ◌∙◌}
use mathlib.Core.Bool.{Bool, true, false, cond}
use mathlib.Core.List.{[], ◌∷◌, Memᴰ}
use lib.Dec.{ltb}
use lib.ListN.{get_or}
use borrow.Author.Tests.{lt-ltb, le-ltb, ltb-true, ltb-false}
use Rattle.std.specs.Prelude.{None, Some}
use Rattle.std.proofs.lemmas.Bool.Decides.{nat_tests}
use Rattle.laws.proofs.Members.{every_member, flat_member, count_member}
use Rattle.records.specs.Record.{pass}
use Rattle.records.specs.declared.Pass.{Pass}
use Rattle.passes.specs.declared.Passes.{Passes}
use Rattle.passes.specs.Expand.{lcm, cycle_from, within_limit, job_count, instances}
use Rattle.passes.specs.Timely.{passes_at, in_order, Timely, AllTimely}
use Rattle.passes.proofs.Multiples.{next_multiple, lcm_from, lcm_first, lcm_second, lcm_least}
use Rattle.passes.proofs.Numbers.{passes_from, from_none, from_more, from_end, cycle_from_lem}

module _ (n : ℕ) where
  -- a number of ticks within the limit is kept
  pub limit_kept : n ≤ 48000 → Some n ≡ within_limit n
  limit_kept h = rw (le-ltb 48000 n h)

  -- one over it is not
  pub limit_passed : 48000 < n → None ≡ within_limit n
  limit_passed h = rw (lt-ltb 48000 n h)

  -- what is kept is the number, which is within the limit
  pub kept_within : {m : ℕ} → Some m ≡ within_limit n → (m ≡ n) × (n ≤ 48000)
  kept_within {m} e = step (ltb 48000 n) refl e
    where
      step : (t : Bool) → ltb 48000 n ≡ t → Some m ≡ cond t None (Some n) → (m ≡ n) × (n ≤ 48000)
      step true h e = cc
      step false h e = (cc, ltb-false 48000 n h)

  -- what is not is over it
  pub none_over : None ≡ within_limit n → 48000 < n
  none_over e = step (ltb 48000 n) refl e
    where
      step : (t : Bool) → ltb 48000 n ≡ t → None ≡ cond t None (Some n) → 48000 < n
      step true h e = ltb-true 48000 n h
      step false h e = cc

module _ (a b m : ℕ) (first : a ∣ m) (up_to_lem : m ≤ lcm a b) where
  -- a multiple up to the least common one that b divides is that one
  pub multiple_found : 0 < m → m ≤ 48000 → m % b ≡ 0 → Some m ≡ within_limit (lcm a b)
  multiple_found above small e =
      let same : lcm a b ≡ m = omega (arith, lcm_least a b m above first (dvd_of_mod-eq-zero b e)) in
      rw same (limit_kept m small)

  -- one that b does not divide is not it, and neither is what lies between it and the next
  pub multiple_more : 0 < b → (m % b ≡ 0 → ⊥) → m + a ≤ lcm a b
  multiple_more above n =
      let other : m ≡ lcm a b → ⊥ = λ e. n (mod-eq-zero_of_dvd b (rw e (lcm_second a b above))) in
      next_multiple a m (lcm a b) first (lcm_first a b) (omega arith)

-- the instances are at most as many as the cycle's ticks
pub instances_small : (c t : ℕ) → c ≤ 48000 → c / t ≤ 48000
instances_small c t small = omega (arith, div-le_self c t)

module _ (passes : Passes) (n : ℕ) where
  -- where there is no pass with a number, its list is empty
  pub at_absent : get_or passes.by_number n None ≡ None → passes_at passes n ≡ []
  unfolding passes_at
  at_absent e = rw e

  module _ {p : Pass} where
    -- where there is one, it alone stands there
    pub at_present : get_or passes.by_number n None ≡ Some p → passes_at passes n ≡ pass n p.cost p.period p.phase p.within ∷ []
    unfolding passes_at
    at_present e = rw e

    -- a pass's window lies within its period, which is above 0
    pub timely : AllTimely passes → n < 24 → get_or passes.by_number n None ≡ Some p → Timely p
    unfolding AllTimely in_order
    timely all h e =
        every_member Timely all (pass n p.cost p.period p.phase p.within)
        ((flat_member (passes_at passes) _ (pass n p.cost p.period p.phase p.within)).1 (n, (count_member 0 24 n).1 (omega arith), rw (at_present e) (Memᴰ.head refl)))

    pub period_above : AllTimely passes → n < 24 → get_or passes.by_number n None ≡ Some p → 0 < p.period
    period_above all h e = (timely all h e).0

  module _ (c : ℕ) where
    -- the instances of no pass, and of a pass
    pub instances_absent : get_or passes.by_number n None ≡ None → 0 ≡ job_count c (passes_at passes n)
    unfolding job_count
    instances_absent e = rw (at_absent e)

    pub instances_present : {p : Pass} → get_or passes.by_number n None ≡ Some p → c / p.period ≡ job_count c (passes_at passes n)
    unfolding job_count instances
    instances_present e = rw (at_present e) (omega arith)

    -- the cycle from a number on is that from the next one on, from the cycle with the pass of this number, if there is one
    pub cycle_absent : get_or passes.by_number n None ≡ None → n < 24 → cycle_from c (passes_from passes n) ≡ cycle_from c (passes_from passes (n + 1))
    unfolding cycle_from
    cycle_absent e h = ap (cycle_from c) (from_more passes n h) ∙ rw (at_absent e)

    pub cycle_present : {p : Pass} → get_or passes.by_number n None ≡ Some p → n < 24 → cycle_from c (passes_from passes n) ≡ cycle_from (lcm c p.period) (passes_from passes (n + 1))
    unfolding cycle_from
    cycle_present e h = ap (cycle_from c) (from_more passes n h) ∙ rw (at_present e)

    -- where no number is left, the cycle is found
    pub cycle_end : 24 ≤ n → cycle_from c (passes_from passes n) ≡ c
    unfolding cycle_from
    cycle_end h = ap (cycle_from c) (from_end passes n h)

-- what the search for a least common multiple rests on
pub ruleset multiples_tried = (dvd_refl, dvd-add, lcm_from, multiple_found, multiple_more, nat_tests)

-- what the cycle of all passes rests on
pub ruleset all_joined = (from_none, cycle_from_lem, cycle_end, period_above, limit_kept, nat_tests)

-- what counting a pass's instances rests on
pub ruleset instances_counted = (instances_absent, instances_present, instances_small, period_above)
