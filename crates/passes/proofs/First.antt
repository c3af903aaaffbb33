-- The number of a pass's first job, counted over the pass numbers below its own: each of them counts with its instances, and from its own number on none does.
use Prim.Native.Nat.{ℕ, zero, suc, ◌+◌, ◌-◌, ◌<◌, ◌≤◌}
use native.Mathlib.Omega.{arith}
use mathlib.Core.Path.{◌≡◌, refl, sym, ap, ◌∙◌}
use mathlib.Core.Bool.{Bool, true, false}
use mathlib.Core.List.{List, ◌++◌, map}
use Rattle.std.specs.Prelude.{Option, None, Some}
use Rattle.std.specs.List.{sum, range_with_len}
use Rattle.std.proofs.lemmas.List.Sums.{sum_by-cons}
use lib.Dec.{ltb}
use lib.ListN.{get_or}
use borrow.Author.Tests.{lt-ltb, le-ltb, ltb-true, ltb-false}
use Rattle.laws.specs.Lists.{count, flat}
use Rattle.records.specs.declared.Pass.{Pass}
use Rattle.passes.specs.declared.Passes.{Passes}
use Rattle.passes.specs.Expand.{job_count, first_job}
use Rattle.passes.specs.Timely.{listed, passes_at, in_order}
use Rattle.passes.proofs.Numbers.{passes_from, from_none, from_more, first_job_append, job_count_append}

module _ (passes : Passes) (cycle : ℕ) where
  -- a pass of lower number counts with its instances
  lower_counts : (m n : ℕ) → m < n → first_job cycle (passes_at passes m) n ≡ job_count cycle (passes_at passes m)
  unfolding first_job job_count passes_at
  lower_counts m n h = go (get_or passes.by_number m None)
    where
      go : (held : Option Pass) → first_job cycle (listed m held) n ≡ job_count cycle (listed m held)
      go (Some p) = rw (lt-ltb m n h)
      go None = refl

  -- a pass of no lower number does not count
  higher_not : (m n : ℕ) → n ≤ m → first_job cycle (passes_at passes m) n ≡ 0
  unfolding first_job passes_at
  higher_not m n h = go (get_or passes.by_number m None)
    where
      go : (held : Option Pass) → first_job cycle (listed m held) n ≡ 0
      go (Some p) = rw (le-ltb m n h)
      go None = refl

  -- so those from a number below it on are its instances and those from the next number on
  pub first_more : (m n : ℕ) → m < 24 → m < n → first_job cycle (passes_from passes m) n ≡ job_count cycle (passes_at passes m) + first_job cycle (passes_from passes (m + 1)) n
  first_more m n low h =
      let split = ap (λ ps. first_job cycle ps n) (from_more passes m low) ∙ first_job_append cycle (passes_at passes m) (passes_from passes (m + 1)) n in
      omega (arith, lower_counts m n h)

  -- no pass from a number on counts for it
  none_counts : (m k n : ℕ) → n ≤ m → first_job cycle (flat (passes_at passes) (count m k)) n ≡ 0
  unfolding first_job
  none_counts m zero n h = refl
  none_counts m (suc k) n h = omega (arith, first_job_append cycle (passes_at passes m) (flat (passes_at passes) (count (m + 1) k)) n, higher_not m n h, none_counts (m + 1) k n (omega arith))

  pub first_end : (m n : ℕ) → n ≤ m → first_job cycle (passes_from passes m) n ≡ 0
  first_end m n h = none_counts m (24 - m) n h

  -- a pass's jobs stand before those of a higher number
  pub first_order : (n m : ℕ) → n < 24 → n < m → first_job cycle (in_order passes) n + job_count cycle (passes_at passes n) ≤ first_job cycle (in_order passes) m
  unfolding in_order
  first_order n m h l = go 0 24 (omega arith) (omega arith)
    where
      go : (s k : ℕ) → s ≤ n → n < s + k → first_job cycle (flat (passes_at passes) (count s k)) n + job_count cycle (passes_at passes n) ≤ first_job cycle (flat (passes_at passes) (count s k)) m
      go s zero low high = absurd (omega arith)
      go s (suc k) low high = step (ltb s n) refl (go (s + 1) k)
        where
          rest : List Pass
          rest = flat (passes_at passes) (count (s + 1) k)

          step : (t : Bool) → ltb s n ≡ t → (s + 1 ≤ n → n < s + 1 + k → first_job cycle rest n + job_count cycle (passes_at passes n) ≤ first_job cycle rest m)
              → first_job cycle (passes_at passes s ++ rest) n + job_count cycle (passes_at passes n) ≤ first_job cycle (passes_at passes s ++ rest) m
          step true e below =
              let before : s < n = ltb-true s n e in
              omega (arith, first_job_append cycle (passes_at passes s) rest n, first_job_append cycle (passes_at passes s) rest m, lower_counts s n before, lower_counts s m (omega arith), below (omega arith) (omega arith))
          step false e below =
              let here : s ≡ n = omega (arith, ltb-false s n e) in
              let own : job_count cycle (passes_at passes n) ≡ job_count cycle (passes_at passes s) = ap (λ k. job_count cycle (passes_at passes k)) (sym here) in
              omega (arith, own, first_job_append cycle (passes_at passes s) rest n, first_job_append cycle (passes_at passes s) rest m, higher_not s n (omega arith), none_counts (s + 1) k n (omega arith), lower_counts s m (omega arith))

  -- all jobs stand before the number 24
  pub first_all : first_job cycle (in_order passes) 24 ≡ job_count cycle (in_order passes)
  unfolding in_order first_job job_count
  first_all = go 0 24 (omega arith)
    where
      go : (s k : ℕ) → s + k ≤ 24 → first_job cycle (flat (passes_at passes) (count s k)) 24 ≡ job_count cycle (flat (passes_at passes) (count s k))
      go s zero h = refl
      go s (suc k) h =
          omega (arith, first_job_append cycle (passes_at passes s) (flat (passes_at passes) (count (s + 1) k)) 24, job_count_append cycle (passes_at passes s) (flat (passes_at passes) (count (s + 1) k)), lower_counts s 24 (omega arith), go (s + 1) k (omega arith))

  -- so a pass's jobs and those before it are among all jobs
  pub first_within : (n : ℕ) → n < 24 → first_job cycle (in_order passes) n + job_count cycle (passes_at passes n) ≤ job_count cycle (in_order passes)
  first_within n h = omega (arith, first_order n 24 h h, first_all)

-- the jobs before those of the pass with a number are the instances of the passes of lower number, summed
pub first_summed : (passes : Passes) (cycle n : ℕ) → n ≤ 24 → sum (map (λ lower. job_count cycle (passes_at passes lower)) (range_with_len 0 n)) ≡ first_job cycle (in_order passes) n
first_summed passes cycle n low = go 0 n (omega arith) ∙ ap (λ ps. first_job cycle ps n) (sym (from_none passes))
  where
    go : (m k : ℕ) → m + k ≡ n → sum (map (λ lower. job_count cycle (passes_at passes lower)) (range_with_len m k)) ≡ first_job cycle (passes_from passes m) n
    go m zero e = sym (first_end passes cycle m n (omega arith))
    go m (suc k) e =
        sum_by-cons (λ x. x) (job_count cycle (passes_at passes m)) (map (λ lower. job_count cycle (passes_at passes lower)) (range_with_len (m + 1) k))
        ∙ ap (λ rest. job_count cycle (passes_at passes m) + rest) (go (m + 1) k (omega arith)) ∙ sym (first_more passes cycle m n (omega arith) (omega arith))
