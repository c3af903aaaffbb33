-- An accepted table expands to at most 48 + 64·24 = 1,584 records. A flow's matched instances are rising, and so are the target's instances that they are linked with,
-- so that a flow has no more links than its source has instances, and no more than its target has; the two passes have at most 48 between them, so that one has at most 24.
use Prim.Native.Nat.{ℕ, ◌+◌, ◌-◌, ◌*◌, ◌/◌, ◌%◌, ◌<◌, ◌≤◌}
use native.Mathlib.Nat.{div-add-mod', lt_of_mul-lt-mul_right, mul-lt-mul_of_pos_right, div-lt_iff_lt-mul, div-mul_cancel}
use native.Mathlib.Omega.{arith}
use mathlib.Core.Path.{◌≡◌, sym, ap, ◌∙◌}
use mathlib.Core.List.Memᴰ
use mathlib.Core.List.{List, map, Memᴰ}
use lib.ListN.{length, length-append, length-map}
use borrow.Author.Tests.{eqb-true}
use Rattle.laws.specs.Lists.{count, keep, flat}
use Rattle.laws.proofs.Members.{keep_member, count_member, count_rising, keep_rising}
use Rattle.laws.proofs.Sizes.{rising_length, map_rising, flat_length, map_keep}
use Rattle.records.specs.Record.{link}
use Rattle.records.specs.declared.Flow.{Flow}
use Rattle.records.specs.declared.PassRecord.{PassRecord}
use Rattle.records.specs.declared.PassRecord.TheVariants.{F}
use Rattle.records.specs.declared.JobRecord.TheVariants.{J, L}
use Rattle.passes.specs.Expand.{pass_at, passes_in_order, flows_of, cycle_of, instances, job_count, jobs_from, flow_links, expanded}
use Rattle.passes.specs.Call.{pass_table, passes_number}
use Rattle.passes.specs.Arrays.{passes_of}
use Rattle.passes.specs.Ends.{FlowEnds, ends_of, matches, matched, matched_links}
use Rattle.passes.proofs.Sound.{Sound, flows_member, flow_known, number_limits}
use Rattle.passes.proofs.Instances.{length_jobs}
use Rattle.passes.proofs.Judging.{accepted}
use Rattle.passes.proofs.Flows.{held_period, held_instances, number_divides, flow_matched, instances_share}
use Rattle.passes.proofs.Pairs.{starts_before}

module _ (e : FlowEnds) (latency : ℕ) where
  -- the instances of the source that have a link
  hits : List ℕ
  hits = keep (matches e) (count 1 e.instances)

  -- there are as many links
  length_hits : length (matched_links e latency) ≡ length hits
  unfolding matched_links matched hits
  length_hits =
      ap length (sym (map_keep (λ i. link (e.from + (i - 1)) (e.to + (i - 1) * e.source_period / e.target_period) latency) (matches e) (count 1 e.instances)))
      ∙ length-map hits _

  -- no more than the source has instances
  pub matched_source : length (matched_links e latency) ≤ e.instances
  unfolding hits
  matched_source =
      let few = rising_length 1 (e.instances + 1) hits (keep_rising (matches e) (count 1 e.instances) (count_rising 1 e.instances))
      (λ i m. let r = (count_member 1 e.instances i).0 ((keep_member (matches e) (count 1 e.instances) i).0 m).0 in (r.0, omega arith)) in
      omega (arith, length_hits)

  -- no more than n, if the target's instances that they are linked with are n at most
  pub matched_target : (n : ℕ) → 0 < e.source_period → 0 < e.target_period → ((i : ℕ) → 1 ≤ i → i ≤ e.instances → (i - 1) * e.source_period < n * e.target_period) → length (matched_links e latency) ≤ n
  unfolding hits matches
  matched_target n ps pt inside =
      let few = rising_length 0 n (map start hits) (map_rising start hits (keep_rising (matches e) (count 1 e.instances) (count_rising 1 e.instances)) up)
      (λ k m. let r = Memᴰ.of_map start hits m in (omega arith, rw (sym r.2) (below r.0 r.1))) in
      omega (arith, length_hits, length-map hits start)
    where
      -- which period of the target starts with that of an instance
      start : ℕ → ℕ
      start i = (i - 1) * e.source_period / e.target_period

      hit : (i : ℕ) → Memᴰ i hits → (1 ≤ i) × (i ≤ e.instances) × ((i - 1) * e.source_period ≡ start i * e.target_period)
      hit i m =
          let r = (keep_member (matches e) (count 1 e.instances) i).0 m in
          let b = (count_member 1 e.instances i).0 r.0 in
          (b.0, omega arith, omega (arith, div-add-mod' ((i - 1) * e.source_period) e.target_period, eqb-true ((i - 1) * e.source_period % e.target_period) 0 r.1))

      below : (i : ℕ) → Memᴰ i hits → start i < n
      below i m = let h = hit i m in (div-lt_iff_lt-mul pt).1 (inside i h.0 h.1)

      up : (i j : ℕ) → Memᴰ i hits → Memᴰ j hits → i < j → start i < start j
      up i j m k l =
          let hi = hit i m in
          let hj = hit j k in
          let earlier : i - 1 < j - 1 = omega arith in
          let apart : (i - 1) * e.source_period < (j - 1) * e.source_period = mul-lt-mul_of_pos_right earlier ps in
          lt_of_mul-lt-mul_right e.target_period (omega arith)

module _ (table : List PassRecord) (sound : Sound table) (few : job_count (cycle_of table) (passes_in_order table) ≤ 48) where
  -- a flow has at most 24 links
  pub flow_size : (f : Flow) → Memᴰ (F f) table → length (flow_links table (cycle_of table) f) ≤ 24
  unfolding ends_of instances
  flow_size f m =
      let known = flow_known table sound f m in
      let e = ends_of (passes_of table) (cycle_of table) f in
      let source = (number_limits table sound f.source known.0).2.0 in
      let target = (number_limits table sound f.target known.1).2.0 in
      let is = held_instances table sound (cycle_of table) f.source known.0 in
      let ts = held_period table sound f.source known.0 in
      let tt' = held_period table sound f.target known.1 in
      let whole = div-mul_cancel (pass_at table f.target).period (number_divides table sound f.target known.1) in
      omega (
        arith,
        ap length (flow_matched table sound f m),
        matched_source e f.latency,
        is,
        instances_share table sound few f.source f.target known.0 known.1 known.2,
        matched_target e f.latency (cycle_of table / (pass_at table f.target).period) (rw ts source) (rw tt' target)
            (λ i low high. rw (ts, tt') (omega (arith, starts_before (cycle_of table) (pass_at table f.source).period i source low (omega arith)))),
      )

  -- so all of them have at most 24 for each F record
  pub links_size : length (flat (flow_links table (cycle_of table)) (flows_of table)) ≤ 24 * length (flows_of table)
  links_size = flat_length (flow_links table (cycle_of table)) 24 (flows_of table) (λ f m. flow_size f ((flows_member table f).0 m))

-- the records that a table expands to: a job for each instance, and the links
pub length_expanded : (table : List PassRecord) → length (expanded table) ≡ job_count (cycle_of table) (passes_in_order table) + length (flat (flow_links table (cycle_of table)) (flows_of table))
unfolding expanded
length_expanded table =
    omega (
      arith,
      length-append (map J (jobs_from (cycle_of table) 0 (passes_in_order table))) (map L (flat (flow_links table (cycle_of table)) (flows_of table))),
      length_jobs (cycle_of table) 0 (passes_in_order table),
      length-map (flat (flow_links table (cycle_of table)) (flows_of table)) L,
    )

-- "At most 64·24 + 48 = 1,584 records"
pub expanded_size : (bytes : List ℕ) → passes_number bytes 0 ≡ 0 → length (expanded (pass_table bytes)) ≤ 1584
expanded_size bytes e =
    let w = accepted bytes e in
    omega (arith, w.jobs, w.flows, links_size (pass_table bytes) w.sound w.jobs, length_expanded (pass_table bytes))
