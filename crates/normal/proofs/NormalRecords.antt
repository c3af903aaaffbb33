-- The records of the normal form, said by number: a J record for each job number, and an L record for each pair that is written.
-- The windows are looked up in lists of 48 numbers, where each number stands at its own place.
use Prim.Native.Nat.{ℕ, zero, suc, ◌+◌, ◌-◌, ◌*◌, ◌<◌, ◌≤◌}
use native.Mathlib.Omega.{arith}
use mathlib.Core.Path.{◌≡◌, refl, sym, ap₂, ◌∙◌}
use mathlib.Core.Bool.{Bool, true, false}
use mathlib.Core.Logic.Iff
use mathlib.Core.Logic.{◌↔◌}
use mathlib.Core.List.Memᴰ
use mathlib.Core.List.{List, [], map, map-map, Memᴰ}
use borrow.Author.Tests.{ltb-true, lt-ltb}
use lib.Dec.{ltb}
use lib.ListN.{length, get_or, length-append, length-map}
use Rattle.laws.specs.Lists.{count, only, any, flat}
use Rattle.laws.proofs.Members.{keep_length, only_member, flat_member, flat_length, map_same, flat_same}
use Rattle.laws.proofs.Rows.{get_d_row}
use Rattle.records.specs.Record.{job, link}
use Rattle.records.specs.declared.Job.{Job}
use Rattle.records.specs.declared.Link.{Link}
use Rattle.records.specs.declared.JobRecord.{JobRecord}
use Rattle.records.specs.declared.JobRecord.TheVariants.{J, L}
use Rattle.jobs.specs.Judge.{is_job}
use Rattle.jobs.specs.Jobs.{numbers, cost, job_at, jobs_in_order}
use Rattle.jobs.proofs.Sound.{numbers_below}
use Rattle.jobs.proofs.JobsFirst.{jobs_first, job_of, link_of_lem}
use Rattle.normal.specs.Gaps.{gaps}
use Rattle.normal.specs.Windows.{windows}
use Rattle.normal.specs.Normal.{normal_job, pair_link, normal_links, normal_records, normal_by, normal_form}
use Rattle.normal.proofs.WindowsEarliest.{gap, earliest, latest}

-- the normal form's job with a number
abbrev pub form_job : List JobRecord → ℕ → Job
form_job table n = job n (cost table n) (earliest table n) (latest table n + cost table n)

-- the link between two jobs, from the first one's cost and latest start and the second one's earliest, if there is a gap and it is written
abbrev pub link_if : (cost latest earliest i j gap : ℕ) → List Link
link_if c l e i j zero = []
link_if c l e i j (suc g) = only (ltb e (suc g + l)) (link i j (suc g - c))

-- the link between two jobs in the normal form, if it is written
abbrev pub form_link : List JobRecord → ℕ → ℕ → List Link
form_link table i j = link_if (cost table i) (latest table i) (earliest table j) i j (gap table i j)

-- the normal form's jobs, by number, and its links, by from and then to
abbrev pub form_jobs : List JobRecord → List Job
form_jobs table = map (form_job table) (numbers table)

abbrev pub form_links : List JobRecord → List Link
form_links table = flat (λ i. flat (form_link table i) (numbers table)) (numbers table)

-- what is looked up in the windows is the earliest and the latest start
module _ (table : List JobRecord) (n : ℕ) (known : Memᴰ n (numbers table)) where
  earliest_at : get_or (windows table (gaps table)).earliest n 0 ≡ earliest table n
  unfolding windows
  earliest_at = get_d_row (earliest table) 48 n 0 (numbers_below table n known)

  latest_at : get_or (windows table (gaps table)).latest n 0 ≡ latest table n
  unfolding windows
  latest_at = get_d_row (latest table) 48 n 0 (numbers_below table n known)

-- the normal form is these jobs and then these links
pub normal_records_lem : (table : List JobRecord) → normal_form table ≡ jobs_first (form_jobs table) (form_links table)
unfolding normal_form normal_by normal_records normal_job normal_links pair_link jobs_in_order job_at
normal_records_lem table =
    ap₂ jobs_first
    (map-map (normal_job (windows table (gaps table))) (job_at table) (numbers table) ∙ map_same _ _ (numbers table) (λ n m. rw (earliest_at table n m, latest_at table n m)))
    (flat_same _ _ (numbers table) (λ i m. flat_same _ _ (numbers table) (λ j n. pair i j m n (gap table i j))))
  where
    pair : (i j : ℕ) → Memᴰ i (numbers table) → Memᴰ j (numbers table) → (g : ℕ)
        → pair_link table (windows table (gaps table)) i j g ≡ link_if (cost table i) (latest table i) (earliest table j) i j g
    pair i j m n zero = refl
    pair i j m n (suc g) = rw (earliest_at table j n, latest_at table i m)

-- a pair is written: a chain joins it, with a gap over what the windows say
pub record Written (table : List JobRecord) (i j : ℕ) : Type 0 where
  pub from : Memᴰ i (numbers table)
  pub to : Memᴰ j (numbers table)
  pub chained : 0 < gap table i j
  pub over : earliest table j < gap table i j + latest table i

-- the link of a pair: it is written where there is a gap and it is over what the windows say
link_if_member : (c l e i j g : ℕ) (k : Link) → Memᴰ k (link_if c l e i j g) ↔ ((0 < g) × (e < g + l) × (k ≡ link i j (g - c)))
link_if_member c l e i j zero k = (λ m. absurd (Memᴰ.not-nil m), λ h. absurd (omega arith))
link_if_member c l e i j (suc g) k = (
  λ m. let r = (only_member (ltb e (suc g + l)) (link i j (suc g - c)) k).0 m in (omega arith, ltb-true e (suc g + l) r.0, r.1),
  λ h. (only_member (ltb e (suc g + l)) (link i j (suc g - c)) k).1 (lt-ltb e (suc g + l) h.1, h.2),
)

-- a pair has at most one link
link_if_length : (c l e i j g : ℕ) → length (link_if c l e i j g) ≤ 1
link_if_length c l e i j zero = omega arith
link_if_length c l e i j (suc g) = go (ltb e (suc g + l))
  where
    go : (t : Bool) → length (only t (link i j (suc g - c))) ≤ 1
    go true = omega arith
    go false = omega arith

module _ (table : List JobRecord) where
  -- the normal form's links are those of the pairs written, with latency gap - cost
  pub links_written : (l : Link) → Memᴰ l (form_links table) ↔ ((i : ℕ) × (j : ℕ) × Written table i j × (l ≡ link i j (gap table i j - cost table i)))
  links_written l = (
    λ m.
        let r = (flat_member (λ i. flat (form_link table i) (numbers table)) (numbers table) l).0 m in
        let q = (flat_member (form_link table r.0) (numbers table) l).0 r.2 in
        let w = (link_if_member _ _ _ r.0 q.0 (gap table r.0 q.0) l).0 q.2 in
        (r.0, q.0, record { from = r.1; to = q.1; chained = w.0; over = w.1 }, w.2),
    λ h.
        (flat_member (λ i. flat (form_link table i) (numbers table)) (numbers table) l).1
        (h.0, h.2.from, (flat_member (form_link table h.0) (numbers table) l).1 (h.1, h.2.to, (link_if_member _ _ _ h.0 h.1 (gap table h.0 h.1) l).1 (h.2.chained, h.2.over, h.3))),
  )

  -- its J records are those of the job numbers
  pub normal_job_member : (j : Job) → Memᴰ (J j) (normal_form table) ↔ ((n : ℕ) × Memᴰ n (numbers table) × (form_job table n ≡ j))
  normal_job_member j = rw normal_records_lem (
    λ m. Memᴰ.of_map (form_job table) (numbers table) ((job_of (form_jobs table) (form_links table) j).0 m),
    λ h. (job_of (form_jobs table) (form_links table) j).1 (Memᴰ.cast (sym h.2) (Memᴰ.map (form_job table) h.1)),
  )

  -- its L records are those of the pairs written
  pub normal_link_member : (l : Link) → Memᴰ (L l) (normal_form table) ↔ ((i : ℕ) × (j : ℕ) × Written table i j × (l ≡ link i j (gap table i j - cost table i)))
  normal_link_member l = rw normal_records_lem (Iff.trans (link_of_lem (form_jobs table) (form_links table) l) (links_written l))

  -- it has at most 48 J records and 48 * 48 L records, far fewer than a table may have
  pub normal_length : length (normal_form table) ≤ 48 + 48 * 48
  unfolding numbers
  normal_length =
      rw normal_records_lem
      (omega (arith, length-append (map J (form_jobs table)) (map L (form_links table)), length-map (form_jobs table) J, length-map (form_links table) L, length-map (numbers table) (form_job table), jobs, links))
    where
      jobs : length (numbers table) ≤ 48
      jobs = keep_length (λ n. any (is_job n) table) (count 0 48)

      row : (i : ℕ) → length (flat (form_link table i) (numbers table)) ≤ 48
      row i = omega (arith, flat_length (form_link table i) 1 (numbers table) (λ j. link_if_length _ _ _ i j (gap table i j)), jobs)

      links : length (form_links table) ≤ 48 * 48
      links = omega (arith, flat_length (λ i. flat (form_link table i) (numbers table)) 48 (numbers table) row, jobs)
