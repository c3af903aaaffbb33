-- When an answer keeps the promise of scheduling: refused before any search by its number, or as the search of the normal form answers.
-- The search is handed the normal form's own jobs and links, and it writes a slot for every job or nothing.
use Prim.Native.Nat.{ℕ, zero, suc, ◌*◌, ◌<◌, ◌≤◌}
use mathlib.Core.Path.{◌≡◌, refl, sym, ap, ◌∙◌}
use mathlib.Core.List.{List, map}
use native.Mathlib.Omega.{arith}
use lib.ListN.{length}
use borrow.Author.Tests.{lt-ltb, le-ltb}
use Rattle.laws.specs.Lists.{count}
use Rattle.laws.proofs.Members.{map_same}
use Rattle.records.specs.Outcome.{Outcome, refuse, refused}
use Rattle.records.specs.declared.JobRecord.{JobRecord}
use Rattle.jobs.specs.declared.Jobs.{Jobs}
use Rattle.jobs.specs.Jobs.{numbers, strongest}
use Rattle.jobs.specs.Call.{job_table}
use Rattle.jobs.specs.Arrays.{jobs_of}
use Rattle.jobs.proofs.WellFormed.{WellFormed}
use Rattle.normal.specs.declared.Windows.{Windows}
use Rattle.normal.specs.Gaps.{Square, cell}
use Rattle.normal.specs.Windows.{windows}
use Rattle.normal.specs.Normal.{normal_form}
use Rattle.normal.specs.Arrays.{Holds}
use Rattle.normal.specs.Chosen.{present_in, chosen}
use Rattle.normal.proofs.NormalSound.{normal_numbers}
use Rattle.normal.proofs.Held.{normalisable}
use Rattle.normal.proofs.FormHeld.{below_48}
use Rattle.normal.proofs.FormGiven.{links_given}
use Rattle.normal.proofs.Answers.{held_number}
use Rattle.search.specs.State.{links_into}
use Rattle.search.specs.Call.{searched, schedule_number, scheduled}
use Rattle.search.proofs.ByNumber.{numbers_in}
use Rattle.search.proofs.Given.{first_length}
use Rattle.search.proofs.Demands.{Comes, spent, nothing, given, searched_comes}

module _ (bytes : List ℕ) (budget room : ℕ) where
  -- with a number from 1 on before any search scheduling is refused
  pub schedule_refused : (number : ℕ) → (number ≡ 0 → ⊥) → schedule_number bytes room ≡ number → scheduled bytes budget room ≡ refused number 0
  unfolding scheduled
  schedule_refused zero some e = absurd (some refl)
  schedule_refused (suc n) some e = rw e

  -- with 0 it is what the search comes to
  pub schedule_searched : schedule_number bytes room ≡ 0 → scheduled bytes budget room ≡ searched (normal_form (job_table bytes)) budget
  unfolding scheduled
  schedule_searched e = rw e

-- the jobs that the code counts are the table's
counted : {table : List JobRecord} {jobs : Jobs} {square : Square} → Holds table jobs square → length (present_in jobs) ≡ length (numbers table)
counted {table} held = ap (λ (j : Jobs). length (present_in j)) held.jobs_held ∙ ap length (numbers_in table)

module _ {bytes : List ℕ} (formed : WellFormed bytes) where
  module _ {jobs : Jobs} {square : Square} (held : Holds (job_table bytes) jobs square) (room : ℕ) where
    -- 9, where there is no room for a slot of each of them
    pub room_scheduled : room < 12 * length (present_in jobs) → schedule_number bytes room ≡ 9
    unfolding schedule_number
    room_scheduled h = held_number formed held _ ∙ ap (λ t. refuse 9 t 0) (lt-ltb room (12 * length (numbers (job_table bytes))) (omega (arith, counted held)))

    -- and 0 where there is
    pub begun_scheduled : 12 * length (present_in jobs) ≤ room → schedule_number bytes room ≡ 0
    unfolding schedule_number
    begun_scheduled h = held_number formed held _ ∙ ap (λ t. refuse 9 t 0) (le-ltb room (12 * length (numbers (job_table bytes))) (omega (arith, counted held)))

module _ {table : List JobRecord} {jobs : Jobs} {square : Square} (held : Holds table jobs square) where
  -- the normal form has as many jobs as were counted
  pub form_counted : {tight : Jobs} → tight ≡ jobs_of (normal_form table) → length (present_in tight) ≡ length (present_in jobs)
  form_counted e =
      ap (λ (j : Jobs). length (present_in j)) e
      ∙ ap length (numbers_in (normal_form table) ∙ normal_numbers (normalisable held))
      ∙ sym (counted held)

  -- the chosen square, by to and then from, has the normal form's links
  pub into_given : (w : Windows) → w ≡ windows table square → {links : Square} → links ≡ chosen jobs w square
      → {into : Square} → into ≡ map (λ k. map (λ i. cell links i k) (count 0 48)) (count 0 48) → into ≡ links_into (normal_form table)
  unfolding links_into
  into_given w same {links} chose e =
      e
      ∙ map_same (λ k. map (λ i. cell links i k) (count 0 48)) (λ k. map (λ i. strongest (normal_form table) i k) (count 0 48)) (count 0 48)
      (λ k m. map_same (λ i. cell links i k) (λ i. strongest (normal_form table) i k) (count 0 48)
      (λ i n. ap (λ s. cell s i k) chose ∙ links_given held w same i k (below_48 i n) (below_48 k m)))

  -- a search that is done writes a slot of each job, and any other nothing
  pub written_length : (budget : ℕ) → {number written : ℕ} → number ≡ (searched (normal_form table) budget).number
      → (number ≡ 0 → written ≡ 12 * length (present_in jobs)) → ((number ≡ 0 → ⊥) → written ≡ 0) → written ≡ length (searched (normal_form table) budget).bytes
  written_length budget = means (searched_comes (normalisable held) budget)
    where
      means : {o : Outcome} → Comes table budget o → {number written : ℕ} → number ≡ o.number
          → (number ≡ 0 → written ≡ 12 * length (present_in jobs)) → ((number ≡ 0 → ⊥) → written ≡ 0) → written ≡ length o.bytes
      means (spent h) e all none = none (λ z. omega (arith, e))
      means (nothing h impossible) e all none = none (λ z. omega (arith, e))
      means (given {q} h f) e all none = omega (arith, all e, counted held, first_length (normalisable held) q f)
