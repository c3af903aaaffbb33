-- The flows of a table and their links, record by record: a pass gives none, and a flow gives itself and its links.
-- Where none of 1 to 6 holds, a flow joins two passes of the table whose periods divide the cycle and whose jobs are among the table's, so that its links are found as `matched_links` finds them.
use Prim.Native.Nat.{ℕ, ◌+◌, ◌-◌, ◌*◌, ◌/◌, ◌<◌, ◌≤◌, ◌∣◌}
use native.Mathlib.Nat.{div-mul-le_self, div-lt_iff_lt-mul, div-mul_cancel}
use native.Mathlib.Omega.{arith}
use mathlib.Core.Path.{◌≡◌, refl, sym, ap, ap₂, ◌∙◌}
use mathlib.Core.Bool.{Bool, true, false}
use mathlib.Core.List.{List, [], ◌∷◌, ◌++◌, Memᴰ}
use lib.Dec.{ltb}
use borrow.Author.Tests.{ltb-true, ltb-false}
use Rattle.laws.specs.Lists.{only, flat, any}
use Rattle.records.specs.declared.Flow.{Flow}
use Rattle.records.specs.declared.PassRecord.{PassRecord}
use Rattle.records.specs.declared.PassRecord.TheVariants.{P, F}
use Rattle.passes.specs.Judge.{is_pass}
use Rattle.passes.specs.Expand.{pass_at, passes_in_order, flows_of, cycle_of, instances, first_job, job_count, flow_links}
use Rattle.passes.specs.Timely.{passes_at, period_at, in_order}
use Rattle.passes.specs.Arrays.{passes_of}
use Rattle.passes.specs.Ends.{ends_of, matches, matched, matched_links, record_links, EndsFit, FlowFits}
use Rattle.passes.proofs.Sound.{Sound, member_order, number_limits, flow_known}
use Rattle.passes.proofs.Least.{cycle_least}
use Rattle.passes.proofs.Held.{held_at, held_list, held_order}
use Rattle.passes.proofs.First.{first_order, first_within}
use Rattle.passes.proofs.Pairs.{links_matched, starts_before}

-- the flow of a record, if it is one
abbrev pub flow_in : PassRecord → List Flow
flow_in r = flows_of (r ∷ [])

-- the flows of a table are those of each record
pub flows_each : (table : List PassRecord) → flows_of table ≡ flat (λ r. flows_of (r ∷ [])) table
unfolding flows_of
flows_each [] = refl
flows_each (P p ∷ table) = flows_each table
flows_each (F f ∷ table) = ap (λ fs. f ∷ fs) (flows_each table)

module _ (table : List PassRecord) (sound : Sound table) where
  -- the pass with a number of the table, as the array has it: its period, and how many instances it has
  pub held_period : (n : ℕ) → any (is_pass n) table ≡ true → period_at (passes_of table) n ≡ (pass_at table n).period
  unfolding period_at
  held_period n e = rw (held_at table n (number_limits table sound n e).0, e)

  pub held_instances : (cycle n : ℕ) → any (is_pass n) table ≡ true → job_count cycle (passes_at (passes_of table) n) ≡ instances cycle (pass_at table n)
  unfolding job_count
  held_instances cycle n e =
      let one : passes_at (passes_of table) n ≡ pass_at table n ∷ [] = held_list table n (number_limits table sound n e).0 ∙ ap (λ t. only t (pass_at table n)) e in
      omega (arith, ap (job_count cycle) one)

  -- its period divides the cycle
  pub number_divides : (n : ℕ) → any (is_pass n) table ≡ true → (pass_at table n).period ∣ cycle_of table
  number_divides n e = (cycle_least table sound).multiple (pass_at table n).period (pass_at table n, member_order table n (number_limits table sound n e).0 e, refl)

  -- a flow's links are found as `matched_links` finds them
  pub flow_matched : (f : Flow) → Memᴰ (F f) table → flow_links table (cycle_of table) f ≡ matched_links (ends_of (passes_of table) (cycle_of table) f) f.latency
  unfolding flow_links matched_links matched matches ends_of pass_at
  flow_matched f m =
      let known = flow_known table sound f m in
      links_matched (cycle_of table) (passes_in_order table) f (pass_at table f.source) (pass_at table f.target)
      (number_limits table sound f.source known.0).2.0 (number_limits table sound f.target known.1).2.0 (number_divides f.target known.1)
      ∙ sym (rw (held_order table, held_period f.source known.0, held_period f.target known.1, held_instances (cycle_of table) f.source known.0))

  -- so the links of all flows are those of each record
  pub links_each : flat (flow_links table (cycle_of table)) (flows_of table) ≡ flat (record_links (passes_of table) (cycle_of table)) table
  unfolding flows_of record_links
  links_each = go table (λ f m. flow_matched f m)
    where
      go : (rs : List PassRecord) → ((f : Flow) → Memᴰ (F f) rs → flow_links table (cycle_of table) f ≡ matched_links (ends_of (passes_of table) (cycle_of table) f) f.latency)
          → flat (flow_links table (cycle_of table)) (flows_of rs) ≡ flat (record_links (passes_of table) (cycle_of table)) rs
      go [] h = refl
      go (P p ∷ rs) h = go rs (λ f m. h f (Memᴰ.tail m))
      go (F f ∷ rs) h = ap₂ ◌++◌ (h f (Memᴰ.head refl)) (go rs (λ f m. h f (Memᴰ.tail m)))

  module _ (few : job_count (cycle_of table) (passes_in_order table) ≤ 48) where
    -- the jobs of the pass with a number are numbered below 48
    pub jobs_below : (n : ℕ) → any (is_pass n) table ≡ true → first_job (cycle_of table) (in_order (passes_of table)) n + instances (cycle_of table) (pass_at table n) ≤ 48
    jobs_below n e =
        omega (arith, first_within (passes_of table) (cycle_of table) n (number_limits table sound n e).0, held_instances (cycle_of table) n e, ap (job_count (cycle_of table)) (held_order table))

    -- two different passes of the table have at most 48 jobs between them
    pub instances_share : (m n : ℕ) → any (is_pass m) table ≡ true → any (is_pass n) table ≡ true → (m ≡ n → ⊥) → instances (cycle_of table) (pass_at table m) + instances (cycle_of table) (pass_at table n) ≤ 48
    instances_share m n em en other = step (ltb m n) refl
      where
        step : (t : Bool) → ltb m n ≡ t → instances (cycle_of table) (pass_at table m) + instances (cycle_of table) (pass_at table n) ≤ 48
        step true l = omega (arith, first_order (passes_of table) (cycle_of table) m n (number_limits table sound m em).0 (ltb-true m n l), held_instances (cycle_of table) m em, jobs_below n en)
        step false l = omega (arith, first_order (passes_of table) (cycle_of table) n m (number_limits table sound n en).0 (omega (arith, ltb-false m n l)), held_instances (cycle_of table) n en, jobs_below m em)

    -- a flow's links name jobs below 48, and no instance is released past 48,000
    ends_fit : cycle_of table ≤ 48000 → (f : Flow) → Memᴰ (F f) table → EndsFit (ends_of (passes_of table) (cycle_of table) f)
    unfolding ends_of instances
    ends_fit ticks f m =
        let known = flow_known table sound f m in
        let ts = held_period f.source known.0 in
        let tt' = held_period f.target known.1 in
        let is = held_instances (cycle_of table) f.source known.0 in
        record {
          above = rw tt' (number_limits table sound f.target known.1).2.0;
          span = rw (ts, is) (omega (arith, div-mul-le_self (cycle_of table) (pass_at table f.source).period));
          from = rw is (jobs_below f.source known.0);
          to = λ i low high.
              let inside : i ≤ cycle_of table / (pass_at table f.source).period = omega arith in
              let start = starts_before (cycle_of table) (pass_at table f.source).period i (number_limits table sound f.source known.0).2.0 low inside in
              let whole = div-mul_cancel (pass_at table f.target).period (number_divides f.target known.1) in
              let among : (i - 1) * (pass_at table f.source).period / (pass_at table f.target).period < cycle_of table / (pass_at table f.target).period =
              (div-lt_iff_lt-mul (number_limits table sound f.target known.1).2.0).1 (omega arith) in
              rw (ts, tt') (omega (arith, jobs_below f.target known.1));
        }

    -- so of each record of the table
    pub record_fits : cycle_of table ≤ 48000 → (r : PassRecord) → Memᴰ r table → FlowFits (passes_of table) (cycle_of table) r
    unfolding FlowFits
    record_fits ticks (P p) m = tt
    record_fits ticks (F f) m =
        let known = flow_known table sound f m in
        ((number_limits table sound f.source known.0).0, (number_limits table sound f.target known.1).0, ends_fit ticks f m)
