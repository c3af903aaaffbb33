-- The loop for the latest start of a job: at turn k it is the earlier of the time at hand, which is by the job's last start, and of what the jobs from k on ask.
use Prim.Native.Nat.{ℕ, ◌+◌, ◌<◌, ◌≤◌, min}
use native.Mathlib.Omega.{arith}
use mathlib.Core.Path.{◌≡◌, sym, ap, ◌∙◌}
use mathlib.Core.Bool.{true, false}
use mathlib.Core.List.{List, map}
use lib.ListN.{get_or}
use Rattle.records.specs.declared.JobRecord.{JobRecord}
use Rattle.jobs.specs.declared.Jobs.{Jobs}
use Rattle.jobs.specs.Arrays.{jobs_of}
use Rattle.normal.specs.Gaps.{Square, cell}
use Rattle.normal.specs.Windows.{before, smallest, last_start, latest_of}
use Rattle.normal.proofs.WindowsLatest.{smallest_bounds}
use Rattle.normal.proofs.NumbersFrom.{numbers_from, from_first, from_end, from_present, from_absent}

-- the latest start of job j for the sake of some jobs
abbrev granted : List JobRecord → Square → ℕ → List ℕ → ℕ
granted table square j ks = smallest (last_start table j) (map (λ k. before (last_start table j) (last_start table k) (cell square j k)) ks)

module _ (jobs : Jobs) (square : Square) (j : ℕ) where
  -- the latest start is the earlier of the time at hand and of what the jobs from k on ask
  abbrev pub LatestFrom : ℕ → ℕ → Type 0
  LatestFrom k time = (table : List JobRecord) → jobs ≡ jobs_of table → (time ≤ last_start table j) × (latest_of table square j ≡ min time (granted table square j (numbers_from table k)))

  -- at first the time is the last start
  pub latest_first : (time : ℕ) → ((table : List JobRecord) → jobs ≡ jobs_of table → time ≡ last_start table j) → LatestFrom 0 time
  unfolding latest_of
  latest_first time last table same =
      let own : time ≡ last_start table j = last table same in
      (omega arith, ap (granted table square j) (sym (from_first table)) ∙ omega (arith, (smallest_bounds (last_start table j) (map (λ k. before (last_start table j) (last_start table k) (cell square j k)) (numbers_from table 0))).0))

  module _ (k time : ℕ) (below : k < 48) (inv : LatestFrom k time) where
    -- a turn at a job that is present
    pub latest_present : (next : ℕ) → get_or jobs.present k false ≡ true → ((table : List JobRecord) → jobs ≡ jobs_of table → next ≡ min time (before (last_start table j) (last_start table k) (cell square j k))) → LatestFrom (k + 1) next
    latest_present next e made table same =
        let here = made table same in
        let old = inv table same in
        (omega arith, old.1 ∙ ap (λ ks. min time (granted table square j ks)) (from_present table same k below e) ∙ omega arith)

    -- a turn at a number of no job
    pub latest_absent : get_or jobs.present k false ≡ false → LatestFrom (k + 1) time
    latest_absent e table same = ((inv table same).0, (inv table same).1 ∙ ap (λ ks. min time (granted table square j ks)) (from_absent table same k below e))

  -- after the last turn the time at hand is the latest start
  pub latest_end : (k time : ℕ) → 48 ≤ k → LatestFrom k time → (table : List JobRecord) → jobs ≡ jobs_of table → time ≡ latest_of table square j
  latest_end k time h inv table same =
      let old = inv table same in
      sym (old.1 ∙ ap (λ ks. min time (granted table square j ks)) (from_end table k h) ∙ omega arith)
