-- A loop through the job numbers of a table, by rising number, that passes over the numbers of no job: what is left of the job numbers at each turn.
-- And what the code's arrays hold at a number: they are what the table says, looked up by number.
use Prim.Native.Nat.{ℕ, ◌+◌, ◌-◌, ◌<◌, ◌≤◌}
use mathlib.Core.Path.{◌≡◌, refl, sym, ap, ◌∙◌}
use mathlib.Core.Bool.{true, false}
use mathlib.Core.List.{List, [], ◌∷◌}
use lib.ListN.{get_or}
use Rattle.laws.specs.Lists.{count, any, keep}
use Rattle.laws.proofs.Scanning.{keep_taken, keep_left, keep_none}
use Rattle.laws.proofs.Rows.{get_d_row}
use Rattle.records.specs.declared.JobRecord.{JobRecord}
use Rattle.jobs.specs.declared.Jobs.{Jobs}
use Rattle.jobs.specs.Judge.{is_job}
use Rattle.jobs.specs.Jobs.{numbers, cost, release, deadline}
use Rattle.jobs.specs.Arrays.{jobs_of}

-- the job numbers of a table from k on
unfoldable pub numbers_from : List JobRecord → ℕ → List ℕ
numbers_from table k = keep (λ n. any (is_job n) table) (count k (48 - k))

-- from 0 on they are all
pub from_first : (table : List JobRecord) → numbers_from table 0 ≡ numbers table
unfolding numbers numbers_from
from_first table = refl

-- at the end there are none
pub from_end : (table : List JobRecord) (k : ℕ) → 48 ≤ k → numbers_from table k ≡ []
unfolding numbers_from
from_end table k h = keep_none (λ n. any (is_job n) table) k 48 h

module _ {jobs : Jobs} (table : List JobRecord) (same : jobs ≡ jobs_of table) (k : ℕ) (below : k < 48) where
  -- the arrays hold what the table says
  pub present_of : get_or jobs.present k false ≡ any (is_job k) table
  unfolding jobs_of
  present_of = ap (λ j. get_or j.present k false) same ∙ get_d_row (λ n. any (is_job n) table) 48 k false below

  pub cost_of : get_or jobs.cost k 0 ≡ cost table k
  unfolding jobs_of
  cost_of = ap (λ j. get_or j.cost k 0) same ∙ get_d_row (cost table) 48 k 0 below

  pub release_of : get_or jobs.release k 0 ≡ release table k
  unfolding jobs_of
  release_of = ap (λ j. get_or j.release k 0) same ∙ get_d_row (release table) 48 k 0 below

  pub deadline_of : get_or jobs.deadline k 0 ≡ deadline table k
  unfolding jobs_of
  deadline_of = ap (λ j. get_or j.deadline k 0) same ∙ get_d_row (deadline table) 48 k 0 below

  -- a number that is present is the next of them
  pub from_present : get_or jobs.present k false ≡ true → numbers_from table k ≡ k ∷ numbers_from table (k + 1)
  unfolding numbers_from
  from_present e = keep_taken (λ n. any (is_job n) table) k 48 below (sym present_of ∙ e)

  -- a number that is not is passed over
  pub from_absent : get_or jobs.present k false ≡ false → numbers_from table k ≡ numbers_from table (k + 1)
  unfolding numbers_from
  from_absent e = keep_left (λ n. any (is_job n) table) k 48 below (sym present_of ∙ e)
