-- When a sequence is live.
use Rattle.std.specs.Prelude.{ℕ, ◌+◌, max, Bool, true, not, ◌&&◌, List, [], ◌∷◌, map, leb}
use Rattle.laws.specs.Lists.{all, keep, largest, total}
use Rattle.records.specs.declared.Job.{Job}
use Rattle.records.specs.declared.Slot.{Slot}
use Rattle.records.specs.declared.JobRecord.{JobRecord}
use Rattle.jobs.specs.Jobs.{deadline, jobs_in_order}
use Rattle.search.specs.Run.{has, free, run}

-- the jobs not in the sequence
unfoldable pub remaining : List JobRecord → List ℕ → List Job
remaining table q = keep (λ j. not (has q j.number)) (jobs_in_order table)

-- "every job in it ends by its deadline"
unfoldable pub on_time : List JobRecord → List Slot → Bool
on_time table slots = all (λ s. leb s.end (deadline table s.number)) slots

-- "every job not in it has max(t, release) + cost at most its deadline"
unfoldable pub each_fits : ℕ → List Job → Bool
each_fits t jobs = all (λ j. leb (max t j.release + j.cost) j.deadline) jobs

-- "if any remain, t plus all remaining costs is at most the largest remaining deadline"
unfoldable pub all_fit : ℕ → List Job → Bool
all_fit t [] = true
all_fit t (j ∷ jobs) = leb (t + total (map (λ k. k.cost) (j ∷ jobs))) (largest (map (λ k. k.deadline) (j ∷ jobs)))

-- "With t the end of the last job (0 for none), a sequence is live when"
unfoldable pub live : List JobRecord → List ℕ → Bool
live table q =
    on_time table (run table q) && each_fits (free (run table q)) (remaining table q) && all_fit (free (run table q)) (remaining table q)
