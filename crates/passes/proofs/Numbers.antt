-- A loop over the pass numbers: the passes from a number on are the one with that number, if there is one, and those from the next number on.
-- What is counted over passes that stand one behind the other is counted over the first, and gone on with over the others: by induction on the first.
use Prim.Native.Nat.{ℕ, suc, ◌+◌, ◌-◌, ◌<◌, ◌≤◌}
use native.Mathlib.Nat.{zero-add, add_assoc}
use native.Mathlib.Omega.{arith}
use mathlib.Core.Path.{◌≡◌, refl, sym, ap, ◌∙◌}
use mathlib.Core.List.{List, [], ◌∷◌, ◌++◌, map, append_assoc}
use Rattle.laws.specs.Lists.{count, flat}
use Rattle.laws.proofs.Counting.{count_more, count_end}
use Rattle.records.specs.declared.Pass.{Pass}
use Rattle.passes.specs.declared.Passes.{Passes}
use Rattle.passes.specs.Expand.{lcm, cycle_from, instances, instance_of, jobs_from, job_count, first_job}
use Rattle.passes.specs.Timely.{passes_at, in_order}
use Rattle.passes.proofs.Multiples.{lcm_from}

-- the passes from a number on
abbrev pub passes_from : Passes → ℕ → List Pass
passes_from passes n = flat (passes_at passes) (count n (24 - n))

module _ (passes : Passes) where
  -- all passes are those from 0 on
  pub from_none : in_order passes ≡ passes_from passes 0
  unfolding in_order
  from_none = refl

  -- below 24, the passes from a number on are the one with it and those from the next number on
  pub from_more : (n : ℕ) → n < 24 → passes_from passes n ≡ passes_at passes n ++ passes_from passes (n + 1)
  from_more n h = ap (flat (passes_at passes)) (count_more n 24 h)

  -- from 24 on there are none
  pub from_end : (n : ℕ) → 24 ≤ n → passes_from passes n ≡ []
  from_end n h = ap (flat (passes_at passes)) (count_end n 24 h)

-- instances are numbered from 1: those after `before` of them are the next one and those after it, and after all of them there are none
pub count_next : (before times : ℕ) → before < times → count (before + 1) (times - before) ≡ (before + 1) ∷ count (before + 1 + 1) (times - (before + 1))
count_next before times h = let left : times - before ≡ suc (times - (before + 1)) = omega arith in rw left

pub count_none : (before times : ℕ) → times ≤ before → count (before + 1) (times - before) ≡ []
count_none before times h = let left : times - before ≡ 0 = omega arith in rw left

-- the cycle of two lists of passes is that of the second, from the cycle of the first
pub cycle_append : (c : ℕ) (ps qs : List Pass) → cycle_from c (ps ++ qs) ≡ cycle_from (cycle_from c ps) qs
unfolding cycle_from
cycle_append c [] qs = refl
cycle_append c (p ∷ ps) qs = cycle_append (lcm c p.period) ps qs

-- a cycle is at least what it was before
pub cycle_from_lem : (c : ℕ) (ps : List Pass) → c ≤ cycle_from c ps
unfolding cycle_from
cycle_from_lem c [] = omega arith
cycle_from_lem c (p ∷ ps) = omega (arith, lcm_from c p.period, cycle_from_lem (lcm c p.period) ps)

-- the jobs of two lists of passes are those of both
pub job_count_append : (cycle : ℕ) (ps qs : List Pass) → job_count cycle (ps ++ qs) ≡ job_count cycle ps + job_count cycle qs
unfolding job_count
job_count_append cycle [] qs = sym (zero-add _)
job_count_append cycle (p ∷ ps) qs = omega (arith, job_count_append cycle ps qs)

-- the jobs of the passes from a number on are those of the pass with it and those of the passes from the next number on
pub job_count_more : (passes : Passes) (cycle n : ℕ) → n < 24 → job_count cycle (passes_from passes n) ≡ job_count cycle (passes_at passes n) + job_count cycle (passes_from passes (n + 1))
job_count_more passes cycle n h = ap (job_count cycle) (from_more passes n h) ∙ job_count_append cycle (passes_at passes n) (passes_from passes (n + 1))

-- so with the jobs of the passes of lower number
pub first_job_append : (cycle : ℕ) (ps qs : List Pass) (n : ℕ) → first_job cycle (ps ++ qs) n ≡ first_job cycle ps n + first_job cycle qs n
unfolding first_job
first_job_append cycle [] qs n = sym (zero-add _)
first_job_append cycle (p ∷ ps) qs n = omega (arith, first_job_append cycle ps qs n)

-- the jobs of two lists are those of the first, and then those of the second, numbered on
pub jobs_append : (cycle first : ℕ) (ps qs : List Pass)
    → jobs_from cycle first (ps ++ qs) ≡ jobs_from cycle first ps ++ jobs_from cycle (first + job_count cycle ps) qs
unfolding jobs_from job_count
jobs_append cycle first [] qs = ap (λ n. jobs_from cycle n qs) (omega arith)
jobs_append cycle first (p ∷ ps) qs =
    ap (λ rest. map (instance_of p first) (count 1 (instances cycle p)) ++ rest)
    (jobs_append cycle (first + instances cycle p) ps qs ∙ ap (λ n. jobs_from cycle (first + instances cycle p) ps ++ jobs_from cycle n qs) (add_assoc first (instances cycle p) (job_count cycle ps)))
    ∙ rw append_assoc
