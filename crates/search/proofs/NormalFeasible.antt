-- A table and its normal form have the same feasible starts: those permitted are the same, and two jobs overlap by their numbers and costs alone, which are the same too.
-- Every number has the same cost in both, also a number without a job, which has the cost 0.
use Prim.Native.Nat.{ℕ}
use mathlib.Core.Bool.{Bool, true, false}
use mathlib.Core.Path.{◌≡◌, refl, sym, ◌∙◌}
use mathlib.Core.Logic.Iff
use mathlib.Core.Logic.{◌↔◌}
use mathlib.Core.List.{List, [], ◌∷◌, Memᴰ}
use Rattle.laws.specs.Lists.{any}
use Rattle.laws.proofs.Members.{true_not_false, not_true_false, or_false}
use Rattle.records.specs.declared.Job.{Job}
use Rattle.records.specs.declared.JobRecord.{JobRecord}
use Rattle.records.specs.declared.JobRecord.TheVariants.{J, L}
use Rattle.jobs.specs.Judge.{is_job, Sound}
use Rattle.jobs.specs.Jobs.{numbers, of_job, cost}
use Rattle.jobs.specs.Starts.{Apart, Feasible, SameJobs, SameStarts}
use Rattle.jobs.proofs.Sound.{numbers_member, any_job, job_known}
use Rattle.normal.specs.Normal.{normal_form}
use Rattle.normal.proofs.WindowsEarliest.{Normalisable}
use Rattle.normal.proofs.NormalSound.{normal_sound, normal_numbers, normal_values}
use Rattle.normal.proofs.NormalPermits.{normal_permits, normal_jobs}

-- starts that are feasible for a table are so for one with the same jobs and costs that permits the same starts
pub feasible_there : {t u : List JobRecord} → SameJobs t u → SameStarts t u → (start : ℕ → ℕ) → Feasible t start → Feasible u start
feasible_there {t} {u} jobs starts start f = record { permitted = (starts start).0 f.permitted; apart = apart }
  where
    apart : (a b : Job) → Memᴰ (J a) u → Memᴰ (J b) u → (a.number ≡ b.number → ⊥) → Apart start a b
    apart a b m n other =
        let j = (jobs a.number a.cost).1 (a, m, refl, refl) in
        let k = (jobs b.number b.cost).1 (b, n, refl, refl) in
        rw (j.2, j.3, k.2, k.3) at (f.apart j.0 k.0 j.1 k.1 (λ e. other (sym j.2 ∙ e ∙ k.2)))

-- so tables with the same jobs and costs that permit the same starts have the same feasible starts
pub feasible_alike : {t u : List JobRecord} → SameJobs t u → SameStarts t u → (start : ℕ → ℕ) → Feasible t start ↔ Feasible u start
feasible_alike jobs starts start = (
  feasible_there jobs starts start,
  feasible_there (λ n c. Iff.symm (jobs n c)) (λ start. Iff.symm (starts start)) start,
)

-- a number without a job has the value 0
value_none : (value : Job → ℕ) (table : List JobRecord) (n : ℕ) → any (is_job n) table ≡ false → of_job value table n ≡ 0
unfolding of_job
value_none value [] n e = refl
value_none value (J j ∷ table) n e =
    let both = or_false (is_job n (J j)) (any (is_job n) table) e in
    rw both.0 (value_none value table n both.1)
value_none value (L l ∷ table) n e = value_none value table n e

-- a number with a job is among the job numbers
job_number : (table : List JobRecord) → Sound table → (n : ℕ) → any (is_job n) table ≡ true → Memᴰ n (numbers table)
job_number table sound n e = let r = any_job table n e in rw r.2 at (job_known table sound r.0 r.1).0

module _ {table : List JobRecord} (normalisable : Normalisable table) where
  -- a table and its normal form have the same feasible starts
  pub feasible_same : (start : ℕ → ℕ) → Feasible table start ↔ Feasible (normal_form table) start
  feasible_same = feasible_alike (normal_jobs normalisable) (normal_permits normalisable)

  -- every number has the same cost in both
  pub normal_cost : (n : ℕ) → cost (normal_form table) n ≡ cost table n
  normal_cost n = step (any (is_job n) table) refl
    where
      back : any (is_job n) (normal_form table) ≡ true → any (is_job n) table ≡ true
      back h = ((numbers_member table n).0 (rw (normal_numbers normalisable) at (job_number (normal_form table) (normal_sound normalisable) n h))).1

      step : (t : Bool) → any (is_job n) table ≡ t → cost (normal_form table) n ≡ cost table n
      step true e = (normal_values normalisable n (job_number table normalisable.sound n e)).0
      step false e = value_none _ (normal_form table) n (not_true_false _ (λ h. true_not_false (back h) e)) ∙ sym (value_none _ table n e)
