-- A link of an accepted table joins two different jobs of it: the jobs of two passes do not overlap in number, and those of each are among all jobs.
use Prim.Native.Nat.{ℕ, ◌+◌, ◌-◌, ◌/◌, ◌<◌, ◌≤◌}
use native.Mathlib.Omega.{arith}
use mathlib.Core.Path.{◌≡◌, refl, ap}
use mathlib.Core.Bool.{Bool, true, false}
use mathlib.Core.List.{List, Memᴰ}
use lib.Dec.{ltb}
use borrow.Author.Tests.{ltb-true, ltb-false}
use Rattle.laws.specs.Lists.{any, flat}
use Rattle.records.specs.declared.Link.{Link}
use Rattle.records.specs.declared.PassRecord.{PassRecord}
use Rattle.passes.specs.Judge.{is_pass}
use Rattle.passes.specs.Expand.{pass_at, passes_in_order, flows_of, cycle_of, instances, job_count, first_job, flow_links}
use Rattle.passes.specs.Timely.{in_order}
use Rattle.passes.specs.Arrays.{passes_of}
use Rattle.passes.proofs.Sound.{Sound, flows_member, flow_known, number_limits}
use Rattle.passes.proofs.First.{first_order, first_within}
use Rattle.passes.proofs.Held.{held_order}
use Rattle.passes.proofs.Flows.{held_instances}
use Rattle.passes.proofs.Exactly.{links_exact}

module _ (table : List PassRecord) (sound : Sound table) where
  -- the arrays' passes give the same first jobs
  held_first : (n : ℕ) → first_job (cycle_of table) (in_order (passes_of table)) n ≡ first_job (cycle_of table) (passes_in_order table) n
  held_first n = ap (λ ps. first_job (cycle_of table) ps n) (held_order table)

  -- a pass's jobs are among all jobs
  pub own_jobs : (n : ℕ) → any (is_pass n) table ≡ true
      → first_job (cycle_of table) (passes_in_order table) n + instances (cycle_of table) (pass_at table n) ≤ job_count (cycle_of table) (passes_in_order table)
  own_jobs n e =
      omega (arith, first_within (passes_of table) (cycle_of table) n (number_limits table sound n e).0, held_instances table sound (cycle_of table) n e, held_first n, ap (job_count (cycle_of table)) (held_order table))

  -- those of a lower number stand before them
  lower_jobs : (m n : ℕ) → any (is_pass m) table ≡ true → m < n
      → first_job (cycle_of table) (passes_in_order table) m + instances (cycle_of table) (pass_at table m) ≤ first_job (cycle_of table) (passes_in_order table) n
  lower_jobs m n e l =
      omega (arith, first_order (passes_of table) (cycle_of table) m n (number_limits table sound m e).0 l, held_instances table sound (cycle_of table) m e, held_first m, held_first n)

  -- so jobs of two different passes have different numbers
  other_jobs : (m n a b : ℕ) → any (is_pass m) table ≡ true → any (is_pass n) table ≡ true → (m ≡ n → ⊥) → a < instances (cycle_of table) (pass_at table m) → b < instances (cycle_of table) (pass_at table n)
      → first_job (cycle_of table) (passes_in_order table) m + a ≡ first_job (cycle_of table) (passes_in_order table) n + b → ⊥
  other_jobs m n a b em en other la lb same = step (ltb m n) refl
    where
      step : (t : Bool) → ltb m n ≡ t → ⊥
      step true l = omega (arith, lower_jobs m n em (ltb-true m n l))
      step false l = omega (arith, lower_jobs n m en (omega (arith, ltb-false m n l)))

  -- a link joins two different jobs of the table, with a latency within the limit
  pub link_ends : (l : Link) → Memᴰ l (flat (flow_links table (cycle_of table)) (flows_of table))
      → (l.from < job_count (cycle_of table) (passes_in_order table)) × (l.to < job_count (cycle_of table) (passes_in_order table)) × (l.from ≡ l.to → ⊥) × (l.latency ≤ 48000)
  unfolding instances
  link_ends l m =
      let h = (links_exact table l).0 m in
      let f = h.flow in
      let known = flow_known table sound f ((flows_member table f).0 h.given) in
      let from = ap (λ l. l.from) h.ends in
      let to = ap (λ l. l.to) h.ends in
      let latency = ap (λ l. l.latency) h.ends in
      let i : h.i - 1 < cycle_of table / (pass_at table f.source).period = omega (arith, h.source) in
      let j : h.j - 1 < cycle_of table / (pass_at table f.target).period = omega (arith, h.target) in (
        omega (arith, own_jobs f.source known.0),
        omega (arith, own_jobs f.target known.1),
        λ same. other_jobs f.source f.target (h.i - 1) (h.j - 1) known.0 known.1 known.2 i j (omega arith),
        omega (arith, known.3),
      )
