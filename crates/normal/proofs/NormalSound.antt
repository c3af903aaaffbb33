-- "Every normal form is itself a job table within the limits": with the same job numbers and costs, the windows in place of releases and deadlines, and fields that fit their bytes.
-- A gap is at most the time between an earliest start and a deadline, which bounds latencies; a job with a gap to itself would start after itself.
use Prim.Native.Nat.{ℕ, ◌+◌, ◌<◌, ◌≤◌}
use native.Mathlib.Omega.{arith}
use mathlib.Core.Path.{◌≡◌, refl, sym, ap, ◌∙◌}
use mathlib.Core.List.Memᴰ
use mathlib.Core.List.{List, map, map-map, map-id, Memᴰ}
use Rattle.laws.specs.Lists.{Every}
use Rattle.laws.proofs.Members.{member_every}
use Rattle.records.specs.Record.{JobFits}
use Rattle.records.specs.declared.Job.{Job}
use Rattle.records.specs.declared.Link.{Link}
use Rattle.records.specs.declared.JobRecord.{JobRecord}
use Rattle.records.specs.declared.JobRecord.TheVariants.{J, L}
use Rattle.jobs.specs.Judge.{Sound}
use Rattle.jobs.specs.Jobs.{numbers, cost, release, deadline}
use Rattle.jobs.proofs.Sound.{numbers_rising, numbers_below, numbers_same, number_known, job_known, link_known, cost_positive, deadline_limit}
use Rattle.jobs.proofs.JobsFirst.{jobs_first_sound}
use Rattle.normal.specs.Normal.{normal_form}
use Rattle.normal.proofs.WindowsEarliest.{Normalisable, gaps_right, gap, earliest, latest, earliest_grows}
use Rattle.normal.proofs.WindowsLatest.{latest_last, last_ends, earliest_latest, no_loop}
use Rattle.normal.proofs.NormalRecords.{form_job, form_jobs, form_links, normal_records_lem, Written, links_written, normal_job_member}

-- the normal form's jobs have the table's job numbers
form_jobs_numbers : (table : List JobRecord) → map (λ j. j.number) (form_jobs table) ≡ numbers table
form_jobs_numbers table = map-map (λ j. j.number) (form_job table) (numbers table) ∙ map-id (numbers table)

module _ {table : List JobRecord} (normalisable : Normalisable table) where
  -- the latest end of a job is within the limit
  ends_limit : (n : ℕ) → Memᴰ n (numbers table) → latest table n + cost table n ≤ 48000
  ends_limit n m = omega (arith, latest_last table n, last_ends normalisable n m, deadline_limit table normalisable.sound n m)

  -- and so is the gap of a pair
  gap_limit : (i j : ℕ) → Written table i j → gap table i j ≤ 48000
  gap_limit i j w = omega (arith, earliest_grows normalisable.sound (gaps_right normalisable) i j w.chained, earliest_latest normalisable j w.to, ends_limit j w.to)

  -- whose jobs are not one
  distinct : (i j : ℕ) → Written table i j → i ≡ j → ⊥
  distinct i j w e = let loop : 0 < gap table i i = rw e (rw e at w.chained) in omega (arith, no_loop normalisable i)

  -- the normal form is within the limits
  pub normal_sound : Sound (normal_form table)
  normal_sound =
      rw normal_records_lem
      (jobs_first_sound (form_jobs table) (form_links table) (rw form_jobs_numbers (numbers_rising table)) limits latencies ends)
    where
      limits : (j : Job) → Memᴰ j (form_jobs table) → (j.number < 48) × (0 < j.cost) × (j.deadline ≤ 48000)
      limits j m = let r = Memᴰ.of_map (form_job table) (numbers table) m in rw (← r.2) (numbers_below table r.0 r.1, cost_positive table normalisable.sound r.0 r.1, ends_limit r.0 r.1)

      latencies : (l : Link) → Memᴰ l (form_links table) → (l.from ≡ l.to → ⊥) × (l.latency ≤ 48000)
      latencies l m = let r = (links_written table l).0 m in rw r.3 (distinct r.0 r.1 r.2, omega (arith, gap_limit r.0 r.1 r.2))

      ends : (l : Link) → Memᴰ l (form_links table) → Memᴰ l.from (map (λ j. j.number) (form_jobs table)) × Memᴰ l.to (map (λ j. j.number) (form_jobs table))
      ends l m = let r = (links_written table l).0 m in rw (form_jobs_numbers, r.3) (r.2.from, r.2.to)

  -- it has the table's job numbers
  pub normal_numbers : numbers (normal_form table) ≡ numbers table
  normal_numbers = numbers_same (normal_form table) table (λ n. (there n, back n))
    where
      there : (n : ℕ) → Memᴰ n (numbers (normal_form table)) → Memᴰ n (numbers table)
      there n m =
          let r = number_known (normal_form table) n m in
          let k = (normal_job_member table r.0).0 r.1 in
          Memᴰ.cast (sym r.2 ∙ sym (ap (λ j. j.number) k.2)) k.1

      back : (n : ℕ) → Memᴰ n (numbers table) → Memᴰ n (numbers (normal_form table))
      back n m = (job_known (normal_form table) normal_sound (form_job table n) ((normal_job_member table (form_job table n)).1 (n, m, refl))).0

  -- and by number the table's costs, and the windows in place of releases and deadlines
  pub normal_values : (n : ℕ) → Memᴰ n (numbers table)
      → (cost (normal_form table) n ≡ cost table n) × (release (normal_form table) n ≡ earliest table n) × (deadline (normal_form table) n ≡ latest table n + cost table n)
  normal_values n m = let k = job_known (normal_form table) normal_sound (form_job table n) ((normal_job_member table (form_job table n)).1 (n, m, refl)) in (k.1, k.2, k.3)

  -- the fields of its records fit their bytes
  pub normal_fits : Every JobFits (normal_form table)
  normal_fits = member_every JobFits (normal_form table) fits
    where
      fits : (r : JobRecord) → Memᴰ r (normal_form table) → JobFits r
      fits (J j) m =
          let r = (normal_job_member table j).0 m in
          rw (← r.2) (omega (arith, numbers_below table r.0 r.1, ends_limit r.0 r.1, earliest_latest normalisable r.0 r.1))
      fits (L l) m =
          let k = link_known (normal_form table) normal_sound l m in
          omega (arith, numbers_below (normal_form table) l.from k.0, numbers_below (normal_form table) l.to k.1, k.3)
