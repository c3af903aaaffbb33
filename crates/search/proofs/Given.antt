-- What is given: the slots of the normal form's first sequence. Their starts are feasible for the table, as they are for the normal form, which has the same feasible starts and costs.
-- There is one for each job, and the bytes written decode to them. A run holds ends, so a start is an end less the cost.
use Prim.Native.Nat.{ℕ, ◌+◌, ◌*◌, ◌-◌}
use native.Mathlib.Omega.{arith}
use mathlib.Core.Path.{◌≡◌, ap}
use mathlib.Core.List.{List, [], ◌∷◌, reverse, reverse_aux}
use borrow.Author.Tests.{eqb-true}
use lib.ListN.{length, length-map, length-reverse}
use Rattle.laws.specs.Lists.{Every}
use Rattle.laws.proofs.Lists.{every_weaker}
use Rattle.records.specs.Record.{SlotFits, in_schedule}
use Rattle.records.specs.Table.{decode}
use Rattle.records.specs.declared.JobRecord.{JobRecord}
use Rattle.records.proofs.Tables.{schedules}
use Rattle.jobs.specs.Jobs.{numbers, cost}
use Rattle.jobs.specs.Starts.{Feasible}
use Rattle.normal.specs.Normal.{normal_form}
use Rattle.normal.proofs.WindowsEarliest.{Normalisable}
use Rattle.normal.proofs.NormalSound.{normal_sound, normal_numbers}
use Rattle.search.specs.Run.{end_in, run}
use Rattle.search.specs.Order.{First}
use Rattle.search.specs.Call.{slots_bytes}
use Rattle.search.proofs.Rest.{full_means}
use Rattle.search.proofs.Running.{Says, run_numbers, run_slots}
use Rattle.search.proofs.Feasibility.{run_feasible, run_fits}
use Rattle.search.proofs.NormalFeasible.{feasible_same, normal_cost}

-- every element of a list turned round has a property that every element of the list has
every_turned : {A : Type 0} (P : A → Type 0) (xs ys : List A) → Every P xs → Every P ys → Every P (reverse_aux xs ys)
every_turned P [] ys h k = k
every_turned P (x ∷ xs) ys h k = every_turned P xs (x ∷ ys) h.1 (h.0, k)

-- when a job starts in the run of a sequence of the normal form
abbrev pub start_given : List JobRecord → List ℕ → ℕ → ℕ
start_given table q k = end_in (run (normal_form table) q) k - cost table k

module _ {table : List JobRecord} (normalisable : Normalisable table) (q : List ℕ) (f : First (normal_form table) q) where
  -- the starts are feasible for the table
  pub first_feasible : Feasible table (start_given table q)
  first_feasible = (feasible_same normalisable _).1 (simp (normal_cost normalisable) at (run_feasible (normal_form table) (normal_sound normalisable) q f.is_open f.is_full))

  -- each slot holds its job's start, and an end a cost later
  pub first_says : Every (λ s. (start_given table q s.number ≡ s.start) × (s.end ≡ s.start + cost table s.number)) (run (normal_form table) q)
  first_says =
      every_weaker (Says (normal_form table) q) _ (λ s h. omega (arith, normal_cost normalisable s.number, h)) (run (normal_form table) q)
      (run_slots (normal_form table) q f.is_open.sequence)

  -- the slots fit their bytes
  pub first_fits : Every SlotFits (run (normal_form table) q)
  first_fits = run_fits (normal_form table) (normal_sound normalisable) q f.is_open

  -- so the bytes decode to them, in running order
  pub first_reads : decode in_schedule (slots_bytes (normal_form table) q) ≡ reverse (run (normal_form table) q)
  unfolding slots_bytes
  first_reads = schedules.decode_encode (reverse (run (normal_form table) q)) (every_turned SlotFits (run (normal_form table) q) [] first_fits tt)

  -- and take the room of a slot for every job of the table
  pub first_length : length (slots_bytes (normal_form table) q) ≡ 12 * length (numbers table)
  unfolding slots_bytes
  first_length =
      let all : length q ≡ length (numbers (normal_form table)) = eqb-true _ _ ((full_means (normal_form table) (normal_sound normalisable) q f.is_open.sequence).1 f.is_full) in
      omega (
        arith,
        schedules.encode_length (reverse (run (normal_form table) q)),
        length-reverse (run (normal_form table) q),
        length-map (run (normal_form table) q) (λ s. s.number),
        ap length (run_numbers (normal_form table) q),
        ap length (normal_numbers normalisable),
      )
