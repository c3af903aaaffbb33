-- What each return of `search` shows, of any table whose jobs and links the code was handed.
use Prim.Native.Nat.{ℕ}
use mathlib.Core.Path.{◌≡◌, refl, sym, ◌∙◌}
use mathlib.Core.Bool.{Bool, true, false, not}
use mathlib.Core.List.{List, [], map}
use lib.ListN.{length, replicate}
use Rattle.records.specs.Outcome.{refused}
use Rattle.records.specs.declared.JobRecord.{JobRecord}
use Rattle.jobs.specs.Judge.{Sound}
use Rattle.jobs.specs.Arrays.{jobs_of}
use Rattle.jobs.specs.declared.Jobs.{Jobs}
use Rattle.normal.specs.Chosen.{present_in}
use Rattle.search.specs.declared.State.{State}
use Rattle.search.specs.declared.Found.{Found}
use Rattle.search.specs.declared.Found.TheVariants.{Nothing}
use Rattle.search.specs.Live.{live}
use Rattle.search.specs.Call.{searched}
use Rattle.search.specs.State.{rest_fits, given, limit_of, begun, links_into, opened, walk, Answers}
use Rattle.search.proofs.TreeLaws.{answers_same}
use Rattle.search.proofs.ByNumber.{numbers_in}
use Rattle.search.proofs.States.{state_of}
use Rattle.search.proofs.Candidates.{live_begun}
use Rattle.search.proofs.Searching.{held, search_live, search_dead}

module _ (table : List JobRecord) (sound : Sound table) (jobs : Jobs) (placed : List Bool) (end budget : ℕ) (before : List ℕ) (fits : Bool)
    (is : jobs ≡ jobs_of table) (marked : placed ≡ map not jobs.present) (ended : end ≡ limit_of jobs)
    (tested : fits ≡ rest_fits jobs.cost jobs.release jobs.deadline end placed 48 0) where
  -- the test of all jobs is whether the empty sequence is live
  tells_live : fits ≡ live table []
  unfolding state_of begun
  tells_live = tested ∙ rw (marked, ended, is) (live_begun table sound)

  pub door_dead : fits ≡ false → Answers (searched table budget) (Nothing 0) before before
  door_dead e =
      answers_same (refused 10 0) (searched table budget) (Nothing 0) before before before (search_dead table sound budget (sym tells_live ∙ e)) refl
      record { number = refl; openings = refl; output = refl }

  pub door_live : (r : Found) (after : List ℕ) (into : List (List ℕ)) (count : ℕ) (s : State) → into ≡ links_into table → count ≡ length (present_in jobs)
      → s ≡ record { placed = placed; order = replicate 48 0; ends = replicate 48 0; free = 0 } → fits ≡ true
      → Answers (walk (given jobs.cost jobs.release jobs.deadline into end count) budget (opened (given jobs.cost jobs.release jobs.deadline into end count) s 0) 0) r before after
      → Answers (searched table budget) r before after
  unfolding begun
  door_live r after into count s links counted started e a =
      answers_same (walk (held table) budget (opened (held table) (begun (jobs_of table).present) 0) 0) (searched table budget) r before before after
      (search_live table sound budget (sym tells_live ∙ e)) refl (rw (started, marked, ended, links, counted, is, numbers_in table) at a)
