-- A schedule exists exactly when feasible starts do. The run of an open sequence that holds all jobs gives feasible starts: each job runs after its release and what it is linked from,
-- ends by its deadline as the sequence is live, and overlaps no other. Where feasible starts exist the search finds such a sequence, and the schedule is the first.
use Prim.Native.Nat.{ℕ, ◌+◌, ◌-◌, ◌≤◌}
use native.Mathlib.Omega.{arith}
use mathlib.Core.Path.{◌≡◌, refl}
use mathlib.Core.Logic.{◌↔◌}
use Rattle.std.specs.Prelude.{Option, None, Some}
use mathlib.Core.List.{List, Memᴰ}
use Rattle.laws.specs.Lists.{Every}
use Rattle.laws.proofs.Members.{every_member, member_every}
use Rattle.records.specs.declared.Job.{Job}
use Rattle.records.specs.declared.Slot.{Slot}
use Rattle.records.specs.declared.JobRecord.{JobRecord}
use Rattle.records.specs.declared.JobRecord.TheVariants.{J, L}
use Rattle.records.specs.Record.{link, SlotFits}
use Rattle.jobs.specs.Judge.{Sound}
use Rattle.jobs.specs.Jobs.{numbers, cost, release, deadline}
use Rattle.jobs.specs.Starts.{Apart, Feasible}
use Rattle.jobs.proofs.Sound.{numbers_below, job_known, link_known, deadline_limit, permitted_by_number}
use Rattle.search.specs.Run.{end_in, run}
use Rattle.search.specs.Tree.{schedule}
use Rattle.search.specs.Order.{Open, Full}
use Rattle.search.proofs.Rest.{full_holds, sequence_known}
use Rattle.search.proofs.Opening.{open_live}
use Rattle.search.proofs.Schedules.{schedule_first, schedule_none}
use Rattle.search.proofs.Running.{start_in, end_in_early, Says, run_holds, run_slots, placed, run_apart, run_linked}
use Rattle.search.proofs.Existence.{feasible_found}

module _ (table : List JobRecord) (sound : Sound table) where
  -- the run of an open sequence that holds all jobs gives feasible starts
  pub run_feasible : (q : List ℕ) → Open table q → Full table q → Feasible table (λ k. end_in (run table q) k - cost table k)
  run_feasible q o f =
      record {
        permitted = (permitted_by_number table sound (start_in table q)).1 (record { windows = windows; links = links });
        apart = apart;
      }
    where
      holds : (n : ℕ) → Memᴰ n (numbers table) → Memᴰ n q
      holds = full_holds table q f

      windows : (n : ℕ) → Memᴰ n (numbers table) → (release table n ≤ start_in table q n) × (start_in table q n + cost table n ≤ deadline table n)
      windows n m =
          let p = placed table q n (holds n m) in
          (p.released, omega (arith, p.ended, end_in_early (run table q) (deadline table) (open_live table o).on_time n))

      links : (i j l : ℕ) → Memᴰ (L (link i j l)) table → start_in table q i + cost table i + l ≤ start_in table q j
      links i j l m = run_linked table q o.sequence (link i j l) m (holds j (link_known table sound (link i j l) m).1)

      apart : (a b : Job) → Memᴰ (J a) table → Memᴰ (J b) table → (a.number ≡ b.number → ⊥) → Apart (start_in table q) a b
      apart a b m n other =
          let j = job_known table sound a m in
          let k = job_known table sound b n in
          let h = run_apart table q a.number b.number (holds a.number j.0) (holds b.number k.0) other in
          rw (j.1, k.1) (rw (j.1, k.1) at h)

  -- the slots of an open sequence fit their bytes
  pub run_fits : (q : List ℕ) → Open table q → Every SlotFits (run table q)
  run_fits q o = member_every SlotFits (run table q) fits
    where
      fits : (s : Slot) → Memᴰ s (run table q) → SlotFits s
      fits s m =
          let known = sequence_known table sound q o.sequence s.number (run_holds table q s m) in
          let on-time = every_member (λ s. s.end ≤ deadline table s.number) (open_live table o).on_time s m in
          let says = every_member (Says table q) (run_slots table q o.sequence) s m in
          omega (arith, numbers_below table s.number known, deadline_limit table sound s.number known)

  -- so the schedule's run gives feasible starts
  pub schedule_feasible : (q : List ℕ) → schedule table ≡ Some q → Feasible table (λ k. end_in (run table q) k - cost table k)
  schedule_feasible q e = let f = schedule_first table sound q e in run_feasible q f.is_open f.is_full

  -- no schedule is given exactly when no starts are feasible
  pub none_feasible : (schedule table ≡ None) ↔ ((start : ℕ → ℕ) → Feasible table start → ⊥)
  none_feasible = (
    λ e start f. let r = feasible_found table sound start f in (schedule_none table sound e).0 r.0 r.1 r.2,
    λ h. step h (schedule table) refl,
  )
    where
      step : ((start : ℕ → ℕ) → Feasible table start → ⊥) → (o : Option (List ℕ)) → schedule table ≡ o → schedule table ≡ None
      step h None e = e
      step h (Some q) e = absurd (h (start_in table q) (schedule_feasible q e))

  -- a schedule is given wherever starts are feasible
  pub feasible_scheduled : (start : ℕ → ℕ) → Feasible table start → (q : List ℕ) × (schedule table ≡ Some q)
  feasible_scheduled start f = step (schedule table) refl
    where
      step : (o : Option (List ℕ)) → schedule table ≡ o → (q : List ℕ) × (schedule table ≡ Some q)
      step None e = absurd (none_feasible.0 e start f)
      step (Some q) e = (q, e)
