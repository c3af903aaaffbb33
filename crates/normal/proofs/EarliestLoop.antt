-- The loop for the earliest start of a job: at turn i it is the later of the time at hand and of what the jobs from i on ask.
use Prim.Native.Nat.{ℕ, ◌+◌, ◌<◌, ◌≤◌, max}
use native.Mathlib.Omega.{arith}
use mathlib.Core.Path.{◌≡◌, sym, ap, ◌∙◌}
use mathlib.Core.Bool.{true, false}
use mathlib.Core.List.{List, map}
use lib.ListN.{get_or}
use Rattle.laws.specs.Lists.{largest}
use Rattle.records.specs.declared.JobRecord.{JobRecord}
use Rattle.jobs.specs.declared.Jobs.{Jobs}
use Rattle.jobs.specs.Jobs.{release}
use Rattle.jobs.specs.Arrays.{jobs_of}
use Rattle.normal.specs.Gaps.{Square, cell}
use Rattle.normal.specs.Windows.{after, earliest_of}
use Rattle.normal.proofs.NumbersFrom.{numbers_from, from_first, from_end, from_present, from_absent, release_of}

-- what some jobs ask of the earliest start of job j
abbrev asked : List JobRecord → Square → ℕ → List ℕ → ℕ
asked table square j is = largest (map (λ i. after (release table i) (cell square i j)) is)

module _ (jobs : Jobs) (square : Square) (j : ℕ) where
  -- the earliest start is the later of the time at hand and of what the jobs from i on ask
  abbrev pub EarliestFrom : ℕ → ℕ → Type 0
  EarliestFrom i time = (table : List JobRecord) → jobs ≡ jobs_of table → earliest_of table square j ≡ max time (asked table square j (numbers_from table i))

  -- at first the time is the release
  pub earliest_first : (time : ℕ) → j < 48 → time ≡ get_or jobs.release j 0 → EarliestFrom 0 time
  unfolding earliest_of
  earliest_first time h e table same = rw (e, release_of table same j h, from_first table)

  module _ (i time : ℕ) (below : i < 48) (inv : EarliestFrom i time) where
    -- a turn at a job that is present
    pub earliest_present : (next : ℕ) → get_or jobs.present i false ≡ true → next ≡ max time (after (get_or jobs.release i 0) (cell square i j)) → EarliestFrom (i + 1) next
    earliest_present next e made table same =
        let here : next ≡ max time (after (release table i) (cell square i j)) = made ∙ ap (λ r. max time (after r (cell square i j))) (release_of table same i below) in
        inv table same ∙ ap (λ is. max time (asked table square j is)) (from_present table same i below e) ∙ omega arith

    -- a turn at a number of no job
    pub earliest_absent : get_or jobs.present i false ≡ false → EarliestFrom (i + 1) time
    earliest_absent e table same = inv table same ∙ ap (λ is. max time (asked table square j is)) (from_absent table same i below e)

  -- after the last turn the time at hand is the earliest start
  pub earliest_end : (i time : ℕ) → 48 ≤ i → EarliestFrom i time → (table : List JobRecord) → jobs ≡ jobs_of table → time ≡ earliest_of table square j
  earliest_end i time h inv table same = sym (inv table same ∙ ap (λ is. max time (asked table square j is)) (from_end table i h) ∙ omega arith)
