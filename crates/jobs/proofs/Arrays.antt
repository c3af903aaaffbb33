-- The arrays of a table's jobs, filled record by record: a job in front is stored at its number, and a link changes nothing.
-- A loop that fills them in the table's order has them for the reversed table, which has the same jobs where each job number is given once.
use Prim.Native.Nat.{ℕ, ◌<◌, ◌≤◌}
use native.Mathlib.Omega.{arith}
use mathlib.Core.Path.{◌≡◌, refl, sym, ap, ◌∙◌, fun_ext}
use mathlib.Core.Bool.{Bool, true, false, cond, ◌||◌}
use mathlib.Core.List.{List, [], ◌∷◌, map, reverse, reverse_aux}
use Rattle.std.specs.Prelude.{None}
use lib.Dec.{eqb, ltb}
use lib.ListN.{length, get_or, set, get_or-eq_default}
use borrow.Author.Tests.{ltb-true, ltb-false, eqb-true, eq-eqb, ne_eqb}
use Rattle.laws.specs.Lists.{any, count}
use Rattle.laws.proofs.Members.{or_false, not_true_false, Faultless, first_fault_none}
use Rattle.laws.proofs.Rows.{get_d_row, length_row}
use Rattle.laws.proofs.Storing.{set_row}
use Rattle.laws.proofs.Walking.{any_reverse, behind, behind_all}
use Rattle.records.specs.declared.Job.{Job}
use Rattle.records.specs.declared.Link.{Link}
use Rattle.records.specs.declared.JobRecord.{JobRecord}
use Rattle.records.specs.declared.JobRecord.TheVariants.{J, L}
use Rattle.jobs.specs.Judge.{is_job, bad_number, fault3}
use Rattle.jobs.specs.Jobs.{of_job}
use Rattle.jobs.specs.Arrays.{jobs_of}
use Rattle.jobs.specs.declared.Jobs.{Jobs}
use Rattle.jobs.proofs.Sound.{any_job, fresh}

-- the mark of a number below 48 says whether the table has a job with it
pub present_below : (table : List JobRecord) (n : ℕ) → n < 48 → get_or (jobs_of table).present n false ≡ any (is_job n) table
unfolding jobs_of
present_below table n h = get_d_row (λ n. any (is_job n) table) 48 n false h

-- there is none past the last mark
pub present_above : (table : List JobRecord) (n : ℕ) → 48 ≤ n → get_or (jobs_of table).present n false ≡ false
unfolding jobs_of
present_above table n h = get_or-eq_default (map (λ n. any (is_job n) table) (count 0 48)) false {n = n} (omega (arith, length_row (λ n. any (is_job n) table) 0 48))

-- where 3 does not hold, no job has a number from 48 on
none_above : (table : List JobRecord) → fault3 table ≡ None → (n : ℕ) → 48 ≤ n → any (is_job n) table ≡ false
unfolding fault3
none_above table e n h = not_true_false (any (is_job n) table) (λ some-job.
    let r = any_job table n some-job in
    let below : r.0.number < 48 = (fresh [] table ((first_fault_none bad_number [] 0 table).0 e) r.0 r.1).0 in
    omega (arith, r.2))

-- so the marks then say of every number whether the table has a job with it
pub present_any : (table : List JobRecord) → fault3 table ≡ None → (n : ℕ) → get_or (jobs_of table).present n false ≡ any (is_job n) table
present_any table e n = step (ltb n 48) refl
  where
    step : (t : Bool) → ltb n 48 ≡ t → get_or (jobs_of table).present n false ≡ any (is_job n) table
    step true h = present_below table n (ltb-true n 48 h)
    step false h = let above : 48 ≤ n = ltb-false n 48 h in present_above table n above ∙ sym (none_above table e n above)

-- jobs with the same arrays are the same
same_jobs : {a b : Jobs} → a.present ≡ b.present → a.cost ≡ b.cost → a.release ≡ b.release → a.deadline ≡ b.deadline → a ≡ b
same_jobs p c r d = λ i. record { present = p i; cost = c i; release = r i; deadline = d i }

module _ (j : Job) (before : List JobRecord) (below : j.number < 48) where
  -- a job in front sets the mark of its number
  present_more : set (jobs_of before).present j.number true ≡ (jobs_of (J j ∷ before)).present
  unfolding jobs_of
  present_more =
      set_row (λ n. any (is_job n) before) (λ n. any (is_job n) (J j ∷ before)) 48 j.number true below
      (rw (eq-eqb j.number j.number refl))
      (λ i other. rw (ne_eqb j.number i (λ same. other (sym same))))

  -- and stores its values there
  value_more : (value : Job → ℕ) → set (map (of_job value before) (count 0 48)) j.number (value j) ≡ map (of_job value (J j ∷ before)) (count 0 48)
  unfolding of_job
  value_more value =
      set_row (of_job value before) (of_job value (J j ∷ before)) 48 j.number (value j) below
      (rw (eq-eqb j.number j.number refl))
      (λ i other. rw (ne_eqb j.number i (λ same. other (sym same))))

  -- a job in front is stored at its number
  pub jobs_more : {jobs : Jobs} → jobs ≡ jobs_of before
      → ◌≡◌ {A = Jobs} (record {
        present = set jobs.present j.number true;
        cost = set jobs.cost j.number j.cost;
        release = set jobs.release j.number j.release;
        deadline = set jobs.deadline j.number j.deadline;
      }) (jobs_of (J j ∷ before))
  unfolding jobs_of
  jobs_more e = same_jobs
      (ap (λ (jobs : Jobs). set jobs.present j.number true) e ∙ present_more)
      (ap (λ (jobs : Jobs). set jobs.cost j.number j.cost) e ∙ value_more (λ j. j.cost))
      (ap (λ (jobs : Jobs). set jobs.release j.number j.release) e ∙ value_more (λ j. j.release))
      (ap (λ (jobs : Jobs). set jobs.deadline j.number j.deadline) e ∙ value_more (λ j. j.deadline))

-- a link in front changes nothing of the jobs
pub jobs_link : (l : Link) (before : List JobRecord) → jobs_of (L l ∷ before) ≡ jobs_of before
unfolding jobs_of of_job
jobs_link l before = refl

-- of a job that the table does not have each value is 0
no_value : (value : Job → ℕ) (table : List JobRecord) (n : ℕ) → any (is_job n) table ≡ false → of_job value table n ≡ 0
unfolding of_job
no_value value [] n e = refl
no_value value (J k ∷ table) n e = let both = or_false (eqb k.number n) (any (is_job n) table) e in rw both.0 (no_value value table n both.1)
no_value value (L l ∷ table) n e = no_value value table n e

-- where each job number is given once, a job's values are found from either end of the table
value_reverse : (value : Job → ℕ) (table : List JobRecord) → Faultless bad_number [] table → (n : ℕ) → of_job value (reverse table) n ≡ of_job value table n
unfolding of_job
value_reverse value table h n = go table [] h
  where
    go : (table before : List JobRecord) → Faultless bad_number before table → of_job value (reverse_aux table before) n ≡ cond (any (is_job n) before) (of_job value before n) (of_job value table n)
    go [] before h = step (any (is_job n) before) refl
      where
        step : (t : Bool) → any (is_job n) before ≡ t → of_job value before n ≡ cond t (of_job value before n) 0
        step true e = refl
        step false e = no_value value before n e
    go (J k ∷ table) before h = go table (J k ∷ before) h.1 ∙ step (eqb k.number n) refl
      where
        step : (t : Bool) → eqb k.number n ≡ t
            → cond (t || any (is_job n) before) (cond t (value k) (of_job value before n)) (of_job value table n)
            ≡ cond (any (is_job n) before) (of_job value before n) (cond t (value k) (of_job value table n))
        step true e =
            let new : any (is_job n) before ≡ false = rw (eqb-true k.number n e) at (or_false (ltb 47 k.number) (any (is_job k.number) before) h.0).1 in
            rw new
        step false e = refl
    go (L l ∷ table) before h = go table (L l ∷ before) h.1

-- so a table that 3 does not refuse has the same jobs in reversed order
jobs_reverse : (table : List JobRecord) → fault3 table ≡ None → jobs_of (reverse table) ≡ jobs_of table
unfolding jobs_of fault3
jobs_reverse table e = same_jobs
    (ap (λ (f : ℕ → Bool). map f (count 0 48)) (fun_ext (λ n. any_reverse (is_job n) table)))
    (reversed (λ j. j.cost))
    (reversed (λ j. j.release))
    (reversed (λ j. j.deadline))
  where
    reversed : (value : Job → ℕ) → map (of_job value (reverse table)) (count 0 48) ≡ map (of_job value table) (count 0 48)
    reversed value = ap (λ (f : ℕ → ℕ). map f (count 0 48)) (fun_ext (value_reverse value table ((first_fault_none bad_number [] 0 table).0 e)))

-- and once all of it is passed, what was filled are its jobs
pub jobs_passed : (table : List JobRecord) (i : ℕ) → length table ≤ i → fault3 table ≡ None → jobs_of (behind i table) ≡ jobs_of table
jobs_passed table i h three = ap jobs_of (behind_all table i h) ∙ jobs_reverse table three
