-- What is said of a schedule and of its refusals, on bytes, and that a table and its normal form get the same. A call that 1 to 9 do not refuse searches the normal form, and comes out in one of three ways: the budget is spent, no starts
-- are feasible, or the first sequence is given. Each number stands for one of the three, so it is given exactly when that way's facts hold. A normal form is searched as its own normal form.
use Prim.Native.Nat.{ℕ, ◌*◌, ◌-◌, ◌<◌, ◌≤◌}
use native.Mathlib.Omega.{arith}
use mathlib.Core.Bool.{Bool, true, false}
use mathlib.Core.Path.{◌≡◌, refl, ap, sym, ◌∙◌}
use mathlib.Core.Logic.{◌↔◌}
use Rattle.std.specs.Prelude.{Option, None, Some}
use mathlib.Core.List.{List}
use borrow.Author.Tests.{ltb-true, ltb-false, le-ltb}
use lib.Dec.{ltb}
use lib.ListN.{length}
use Rattle.laws.specs.Lists.{Every}
use Rattle.records.specs.Record.{SlotFits}
use Rattle.records.specs.Outcome.{Outcome, refuse, done, refused, unless_refused}
use Rattle.records.specs.declared.JobRecord.{JobRecord}
use Rattle.jobs.specs.Judge.{Sound}
use Rattle.jobs.specs.Jobs.{numbers, cost}
use Rattle.jobs.specs.Call.{job_table}
use Rattle.jobs.specs.Starts.{Feasible}
use Rattle.jobs.proofs.WellFormed.{refuse_passed}
use Rattle.normal.specs.Normal.{normal_form}
use Rattle.normal.specs.Call.{normal_bytes}
use Rattle.normal.proofs.WindowsEarliest.{Normalisable}
use Rattle.normal.proofs.NormalSound.{normal_sound, normal_numbers}
use Rattle.normal.proofs.Canonical.{idempotent}
use Rattle.normal.proofs.CanonicalBytes.{Accepted, accepted_later, later_accepted, normal_table, normal_accepted}
use Rattle.search.specs.Run.{end_in, run}
use Rattle.search.specs.Tree.{schedule, openings}
use Rattle.search.specs.Order.{First, Openings}
use Rattle.search.specs.Call.{schedule_number, slots_bytes, decided, searched, scheduled}
use Rattle.search.proofs.Schedules.{schedule_first, openings_right}
use Rattle.search.proofs.Feasibility.{none_feasible}
use Rattle.search.proofs.NormalFeasible.{feasible_same}
use Rattle.search.proofs.Given.{start_given, first_feasible, first_fits}

-- how the search of a table's normal form can come out under a budget: spent, none, or given
pub data Comes (table : List JobRecord) (budget : ℕ) : Outcome → Type 0 where
  spent : budget < openings (normal_form table) → Comes table budget (refused 11 budget)
  nothing : openings (normal_form table) ≤ budget → ((start : ℕ → ℕ) → Feasible table start → ⊥) → Comes table budget (refused 10 (openings (normal_form table)))
  given : {q : List ℕ} → openings (normal_form table) ≤ budget → First (normal_form table) q
      → Comes table budget (done (openings (normal_form table)) (slots_bytes (normal_form table) q))

module _ {table : List JobRecord} (normalisable : Normalisable table) (budget : ℕ) where
  -- so it comes out
  pub searched_comes : Comes table budget (searched (normal_form table) budget)
  unfolding searched decided
  searched_comes = step (ltb budget (openings (normal_form table))) refl (schedule (normal_form table)) refl
    where
      step : (t : Bool) → ltb budget (openings (normal_form table)) ≡ t → (o : Option (List ℕ)) → schedule (normal_form table) ≡ o
          → Comes table budget (elim t [ true ↦ refused 11 budget | false ↦ decided (normal_form table) o (openings (normal_form table)) ])
      step true e o found = spent (ltb-true _ _ e)
      step false e None found =
          nothing (ltb-false _ _ e) (λ start f. (none_feasible (normal_form table) (normal_sound normalisable)).0 found start ((feasible_same normalisable start).0 f))
      step false e (Some q) found = given (ltb-false _ _ e) (schedule_first (normal_form table) (normal_sound normalisable) q found)

-- the normal form of a table's records
abbrev pub normal_of : List ℕ → List JobRecord
normal_of bytes = normal_form (job_table bytes)

-- a call is not refused by 1 to 9 exactly when its table is accepted and a slot for every job has room
pub schedule_accepted : (bytes : List ℕ) (room : ℕ) → (schedule_number bytes room ≡ 0) ↔ (Accepted bytes × (12 * length (numbers (job_table bytes)) ≤ room))
unfolding schedule_number
schedule_accepted bytes room = (
  λ e.
      let accepted = later_accepted bytes (refuse 9 (ltb room (12 * length (numbers (job_table bytes)))) 0) 0 (λ h. omega arith) e in
      let nine = refuse_passed 9 (ltb room (12 * length (numbers (job_table bytes)))) 0 0 (λ z. omega arith) (sym (accepted_later accepted _) ∙ e) in
      (accepted, ltb-false _ _ nine.0),
  λ h. accepted_later h.0 _ ∙ ap (λ t. refuse 9 t 0) (le-ltb _ _ h.1),
)

-- a call that 1 to 9 do not refuse
module _ (bytes : List ℕ) (budget room : ℕ) (passed : schedule_number bytes room ≡ 0) where
  -- its table is accepted
  accepted : Accepted bytes
  accepted = ((schedule_accepted bytes room).0 passed).0

  -- its normal form is within the limits
  sound : Sound (normal_of bytes)
  sound = normal_sound accepted.normalisable

  -- it searches the normal form
  pub scheduled_searched : scheduled bytes budget room ≡ searched (normal_of bytes) budget
  unfolding scheduled
  scheduled_searched = ap (λ n. unless_refused n (searched (normal_of bytes) budget)) passed

  -- and so comes out as a search does
  pub scheduled_comes : Comes (job_table bytes) budget (scheduled bytes budget room)
  scheduled_comes = rw scheduled_searched (searched_comes accepted.normalisable budget)

  -- "a schedule is given exactly when some choice of whole-number starts meets every release, deadline and link with no two jobs overlapping, and the budget covers the search"
  pub demand_2_schedule : ((scheduled bytes budget room).number ≡ 0)
      ↔ (((start : ℕ → ℕ) × Feasible (job_table bytes) start) × (openings (normal_of bytes) ≤ budget))
  demand_2_schedule = means scheduled_comes
    where
      means : {o : Outcome} → Comes (job_table bytes) budget o
          → (o.number ≡ 0) ↔ (((start : ℕ → ℕ) × Feasible (job_table bytes) start) × (openings (normal_of bytes) ≤ budget))
      means (spent h) = (λ e. absurd (omega arith), λ r. absurd (omega (arith, r.1)))
      means (nothing h impossible) = (λ e. absurd (omega arith), λ r. absurd (impossible r.0.0 r.0.1))
      means (given {q} h f) = (λ e. ((start_given (job_table bytes) q, first_feasible accepted.normalisable q f), h), λ r. refl)

  -- "the one given is first in the stated order"
  pub demand_2_first : (scheduled bytes budget room).number ≡ 0
      → (q : List ℕ) × First (normal_of bytes) q × ((scheduled bytes budget room).bytes ≡ slots_bytes (normal_of bytes) q)
      × ((scheduled bytes budget room).openings ≡ openings (normal_of bytes))
  demand_2_first = means scheduled_comes
    where
      means : {o : Outcome} → Comes (job_table bytes) budget o → o.number ≡ 0
          → (q : List ℕ) × First (normal_of bytes) q × (o.bytes ≡ slots_bytes (normal_of bytes) q) × (o.openings ≡ openings (normal_of bytes))
      means (spent h) e = absurd (omega arith)
      means (nothing h impossible) e = absurd (omega arith)
      means (given {q} h f) e = (q, f, refl, refl)

  -- the starts in its slots are feasible for the table, and the slots fit their bytes
  pub demand_2_starts : (q : List ℕ) → First (normal_of bytes) q
      → Feasible (job_table bytes) (λ k. end_in (run (normal_of bytes) q) k - cost (job_table bytes) k) × Every SlotFits (run (normal_of bytes) q)
  demand_2_starts q f = (first_feasible accepted.normalisable q f, first_fits accepted.normalisable q f)

  -- "None" is said exactly when no such choice exists and the budget covers the search
  pub demand_2_none : ((scheduled bytes budget room).number ≡ 10)
      ↔ (((start : ℕ → ℕ) → Feasible (job_table bytes) start → ⊥) × (openings (normal_of bytes) ≤ budget))
  demand_2_none = means scheduled_comes
    where
      means : {o : Outcome} → Comes (job_table bytes) budget o
          → (o.number ≡ 10) ↔ (((start : ℕ → ℕ) → Feasible (job_table bytes) start → ⊥) × (openings (normal_of bytes) ≤ budget))
      means (spent h) = (λ e. absurd (omega arith), λ r. absurd (omega (arith, r.1)))
      means (nothing h impossible) = (λ e. (impossible, h), λ r. refl)
      means (given {q} h f) = (λ e. absurd (omega arith), λ r. absurd (r.0 (start_given (job_table bytes) q) (first_feasible accepted.normalisable q f)))

  -- "budget spent" is said exactly when the count would pass the budget
  pub demand_2_spent : ((scheduled bytes budget room).number ≡ 11) ↔ (budget < openings (normal_of bytes))
  demand_2_spent = means scheduled_comes
    where
      means : {o : Outcome} → Comes (job_table bytes) budget o → (o.number ≡ 11) ↔ (budget < openings (normal_of bytes))
      means (spent h) = (λ e. h, λ r. refl)
      means (nothing h impossible) = (λ e. absurd (omega arith), λ r. absurd (omega arith))
      means (given h f) = (λ e. absurd (omega arith), λ r. absurd (omega arith))

  -- "The count of openings equals its definition", unless the budget is spent
  pub demand_2_count : ((scheduled bytes budget room).number ≡ 11 → ⊥)
      → ((scheduled bytes budget room).openings ≡ openings (normal_of bytes)) × Openings (normal_of bytes) (scheduled bytes budget room).openings
  demand_2_count other = let counted = means scheduled_comes other in (counted, rw counted (openings_right (normal_of bytes) sound))
    where
      means : {o : Outcome} → Comes (job_table bytes) budget o → (o.number ≡ 11 → ⊥) → o.openings ≡ openings (normal_of bytes)
      means (spent h) other = absurd (other refl)
      means (nothing h impossible) other = refl
      means (given h f) other = refl

  -- and then it is the budget
  pub demand_2_count_spent : (scheduled bytes budget room).number ≡ 11 → (scheduled bytes budget room).openings ≡ budget
  demand_2_count_spent = means scheduled_comes
    where
      means : {o : Outcome} → Comes (job_table bytes) budget o → o.number ≡ 11 → o.openings ≡ budget
      means (spent h) e = refl
      means (nothing h impossible) e = absurd (omega arith)
      means (given h f) e = absurd (omega arith)

-- scheduling accepted bytes refuses them by 9 or searches the normal form
pub scheduled_accepted : {bytes : List ℕ} → Accepted bytes → (budget room : ℕ)
    → scheduled bytes budget room ≡ unless_refused (refuse 9 (ltb room (12 * length (numbers (job_table bytes)))) 0) (searched (normal_of bytes) budget)
unfolding scheduled schedule_number
scheduled_accepted {bytes} accepted budget room =
    ap (λ n. unless_refused n (searched (normal_of bytes) budget)) (accepted_later accepted (refuse 9 (ltb room (12 * length (numbers (job_table bytes)))) 0))

-- "A table and its normal form get the same schedule, refusal and count under one budget", for every room
pub same_answers : {bytes : List ℕ} → Accepted bytes → (budget room : ℕ) → scheduled (normal_bytes bytes) budget room ≡ scheduled bytes budget room
same_answers accepted budget room =
    scheduled_accepted (normal_accepted accepted) budget room
    ∙ rw (normal_table accepted, normal_numbers accepted.normalisable, idempotent accepted.normalisable) (sym (scheduled_accepted accepted budget room))
