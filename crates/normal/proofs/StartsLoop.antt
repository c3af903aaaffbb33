-- 8 as the code asks it: some number is that of a job, and this job is late.
use Prim.Native.Nat.{ℕ, zero, suc, ◌+◌, ◌<◌}
use native.Mathlib.Omega.{arith}
use mathlib.Core.Path.{◌≡◌, refl, sym, ap, ◌∙◌}
use mathlib.Core.Bool.{Bool, true, false, ◌&&◌, ◌||◌}
use mathlib.Core.List.{List, [], ◌∷◌, ◌++◌, map}
use lib.Dec.{ltb}
use lib.ListN.{get_or}
use Rattle.laws.specs.Lists.{any, keep, only, count}
use Rattle.records.specs.declared.Job.{Job}
use Rattle.records.specs.declared.JobRecord.{JobRecord}
use Rattle.jobs.specs.declared.Jobs.{Jobs}
use Rattle.jobs.specs.Judge.{is_job}
use Rattle.jobs.specs.Jobs.{numbers, cost, deadline, job_at, jobs_in_order}
use Rattle.jobs.specs.Arrays.{jobs_of}
use Rattle.normal.specs.Gaps.{Square}
use Rattle.normal.specs.Windows.{earliest_of, no_starts}
use Rattle.normal.proofs.NumbersFrom.{present_of}

-- a test holds of some job exactly when it holds of some number's job
any_map : {A B : Type 0} (p : B → Bool) (f : A → B) (xs : List A) → any p (map f xs) ≡ any (λ x. p (f x)) xs
any_map p f [] = refl
any_map p f (x ∷ xs) = ap (λ t. p (f x) || t) (any_map p f xs)

-- the job with a number cannot end by its deadline
abbrev pub is_late : List JobRecord → Square → ℕ → Bool
is_late table square n = ltb (deadline table n) (earliest_of table square n + cost table n)

-- 8 is that some job is late
pub starts_late : (table : List JobRecord) (square : Square) → no_starts table square ≡ any (is_late table square) (numbers table)
unfolding no_starts jobs_in_order job_at
starts_late table square = any_map (λ (j : Job). ltb j.deadline (earliest_of table square j.number + j.cost)) (job_at table) (numbers table)

-- a test holds of some number of a row that another test keeps, exactly when both hold of some number
any_kept : (p q r : ℕ → Bool) (m n : ℕ) → ((k : ℕ) → k < m + n → r k ≡ q k) → any (λ k. r k && p k) (count m n) ≡ any p (keep q (count m n))
any_kept p q r m zero same = refl
any_kept p q r m (suc n) same = ap (λ t. (t && p m) || any (λ k. r k && p k) (count (m + 1) n)) (same m (omega arith)) ∙ step (q m) (any_kept p q r (m + 1) n (λ k b. same k (omega arith)))
  where
    step : (t : Bool) → any (λ k. r k && p k) (count (m + 1) n) ≡ any p (keep q (count (m + 1) n)) → ((t && p m) || any (λ k. r k && p k) (count (m + 1) n)) ≡ any p (only t m ++ keep q (count (m + 1) n))
    step true e = ap (λ s. p m || s) e
    step false e = e

-- so 8 is that some number is marked and its job late
pub starts_marked : (jobs : Jobs) (square : Square) (table : List JobRecord) → jobs ≡ jobs_of table → any (λ j. get_or jobs.present j false && is_late table square j) (count 0 48) ≡ no_starts table square
unfolding numbers
starts_marked jobs square table same =
    any_kept (is_late table square) (λ n. any (is_job n) table) (λ j. get_or jobs.present j false) 0 48 (λ k b. present_of table same k b) ∙ sym (starts_late table square)
