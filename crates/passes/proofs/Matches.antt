-- The links of a flow, found one after another: a turn of the loop takes an instance of the source, which has one link or none, and those of the instances after it are left.
use Prim.Native.Nat.{ℕ, zero, suc, ◌+◌, ◌-◌, ◌*◌, ◌/◌, ◌<◌, ◌≤◌}
use native.Mathlib.Omega.{arith}
use mathlib.Core.Path.{◌≡◌, refl, sym, ap, ◌∙◌}
use mathlib.Core.Bool.{Bool, true, false}
use mathlib.Core.List.{List, [], ◌∷◌, ◌++◌, map, map-append}
use lib.ListN.{length, drop, length-append, length-map}
use lib.Seq.{paste}
use Rattle.std.specs.List.{filter, range_with_len}
use Rattle.laws.specs.Lists.{count, flat}
use Rattle.laws.proofs.Walking.{Next}
use Rattle.laws.proofs.Gathering.{gather_more, gather_end}
use Rattle.records.specs.Record.{job_bytes, link}
use Rattle.records.specs.declared.Pass.{Pass}
use Rattle.records.specs.declared.Flow.{Flow}
use Rattle.records.specs.declared.PassRecord.{PassRecord}
use Rattle.records.specs.declared.PassRecord.TheVariants.{P, F}
use Rattle.records.specs.declared.Link.{Link}
use Rattle.records.specs.declared.JobRecord.TheVariants.{L}
use Rattle.records.proofs.Codec.{jobs}
use Rattle.records.proofs.Writing.{written, written_none, written_one, written_more, written_end}
use Rattle.passes.specs.declared.Passes.{Passes}
use Rattle.passes.proofs.Numbers.{count_next, count_none}
use Rattle.passes.specs.Ends.{FlowEnds, ends_of, matches, matched, matched_links, record_links, EndsFit, FlowFits}

-- the links of the instances after `before` of the source's
abbrev pub matched_from : FlowEnds → ℕ → ℕ → List Link
matched_from e latency before = flat (matched e latency) (count (before + 1) (e.instances - before))

module _ (e : FlowEnds) (latency : ℕ) where
  -- all links are those of all instances
  pub matched_start : matched_links e latency ≡ matched_from e latency 0
  unfolding matched_links
  matched_start = let all : e.instances ≡ e.instances - 0 = omega arith in ap (λ n. flat (matched e latency) (count 1 n)) all

  module _ (before : ℕ) where
    -- those of the instances after some are the next one's own and those after it
    pub matched_more : before < e.instances → matched_from e latency before ≡ matched e latency (before + 1) ++ matched_from e latency (before + 1)
    matched_more h = ap (flat (matched e latency)) (count_next before e.instances h)

    -- past the last instance there are none
    pub matched_end : e.instances ≤ before → matched_from e latency before ≡ []
    matched_end h = ap (flat (matched e latency)) (count_none before e.instances h)

    -- an instance has its link where it matches, and none where it does not
    pub one_match : matches e (before + 1) ≡ true → matched e latency (before + 1) ≡ link (e.from + before) (e.to + before * e.source_period / e.target_period) latency ∷ []
    unfolding matched
    one_match t = let here : before + 1 - 1 ≡ before = omega arith in rw (t, here)

    pub no_match : matches e (before + 1) ≡ false → matched e latency (before + 1) ≡ []
    unfolding matched
    no_match t = rw t

    -- so many links it has
    pub one_long : matches e (before + 1) ≡ true → length (matched e latency (before + 1)) ≡ 1
    one_long t = ap length (one_match t)

    pub none_long : matches e (before + 1) ≡ false → length (matched e latency (before + 1)) ≡ 0
    none_long t = ap length (no_match t)

    -- the links of the instances after some are the next one's and those after it
    pub count_match : before < e.instances → length (matched_from e latency before) ≡ length (matched e latency (before + 1)) + length (matched_from e latency (before + 1))
    count_match h = ap length (matched_more h) ∙ length-append (matched e latency (before + 1)) (matched_from e latency (before + 1))

    -- past the last instance there are none
    pub count_all : e.instances ≤ before → length (matched_from e latency before) ≡ 0
    count_all h = ap length (matched_end h)

    module _ (out : List ℕ) (place : ℕ) where
      -- where it does not match, nothing is written
      pub write_none : matches e (before + 1) ≡ false → written job_bytes out place (map L (matched e latency (before + 1))) ≡ out
      write_none t = rw (no_match t) (sym (written_none jobs out place))

      -- where it does, its link is
      pub write_one : matches e (before + 1) ≡ true
          → written job_bytes out place (map L (matched e latency (before + 1))) ≡ paste out (12 * place) (job_bytes (L (link (e.from + before) (e.to + before * e.source_period / e.target_period) latency))) 12
      write_one t = rw (one_match t) (sym (written_one jobs out place (L (link (e.from + before) (e.to + before * e.source_period / e.target_period) latency))))

      -- the links of the instances after some are written by writing the next one's, and behind them those after it
      pub links_more : before < e.instances → 12 * (place + length (matched e latency (before + 1))) ≤ length out
          → written job_bytes out place (map L (matched_from e latency before))
          ≡ written job_bytes (written job_bytes out place (map L (matched e latency (before + 1)))) (place + length (matched e latency (before + 1))) (map L (matched_from e latency (before + 1)))
      links_more h room =
          let many : length (map L (matched e latency (before + 1))) ≡ length (matched e latency (before + 1)) = length-map (matched e latency (before + 1)) L in
          sym (written_more jobs out place (place + length (matched e latency (before + 1))) (map L (matched_from e latency before)) (map L (matched e latency (before + 1))) (map L (matched_from e latency (before + 1)))
          (ap (map L) (matched_more h) ∙ map-append L (matched e latency (before + 1)) (matched_from e latency (before + 1))) (omega arith) refl (omega arith) refl)

      -- after all of them nothing is written
      pub links_end : e.instances ≤ before → written job_bytes out place (map L (matched_from e latency before)) ≡ out
      links_end h = sym (written_end jobs out place (map L (matched_from e latency before)) (ap (map L) (matched_end h)) refl)

-- a flow has as many links as instances of its source match
pub matches_counted : (e : FlowEnds) (latency : ℕ) → length (filter (λ before. matches e (before + 1)) (range_with_len 0 e.instances)) ≡ length (matched_links e latency)
unfolding matched_links
matches_counted e latency = go 0 e.instances
  where
    go : (a n : ℕ) → length (filter (λ before. matches e (before + 1)) (range_with_len a n)) ≡ length (flat (matched e latency) (count (a + 1) n))
    go a zero = refl
    go a (suc n) = step (matches e (a + 1)) refl (go (a + 1) n)
      where
        step : (t : Bool) → matches e (a + 1) ≡ t → length (filter (λ before. matches e (before + 1)) (range_with_len (a + 1) n)) ≡ length (flat (matched e latency) (count (a + 1 + 1) n))
            → length (filter (λ before. matches e (before + 1)) (range_with_len a (suc n))) ≡ length (flat (matched e latency) (count (a + 1) (suc n)))
        step true t rest = rw (t, one_match e latency a t) (ap suc rest)
        step false t rest = rw (t, no_match e latency a t) rest

-- what writing the links rests on
pub ruleset links_written = (matched_start, count_match, count_all, links_more, links_end)

-- where the links fit, none names a job that is numbered 48 or above
pub linked : (e : FlowEnds) → EndsFit e → (before : ℕ) → before < e.instances → e.to + before * e.source_period / e.target_period < 48
linked e fit before h = let here : before + 1 - 1 ≡ before = omega arith in rw here at (fit.to (before + 1) (omega arith) (omega arith))

-- what writing an instance's link rests on
pub ruleset match_written = (one_long, none_long, write_none, write_one)

module _ (passes : Passes) (cycle : ℕ) where
  -- what a flow's record says of its ends
  pub flow_fits : {r : PassRecord} {f : Flow} → r ≡ F f → FlowFits passes cycle r → (f.source < 24) × (f.target < 24) × EndsFit (ends_of passes cycle f)
  unfolding FlowFits
  flow_fits e h = rw e at h

  -- the links of a flow's record are those of its ends
  pub flow_links_lem : {r : PassRecord} {f : Flow} → r ≡ F f → record_links passes cycle r ≡ matched_links (ends_of passes cycle f) f.latency
  unfolding record_links
  flow_links_lem e = rw e

  -- a pass's record has none
  pub pass_links : {r : PassRecord} {p : Pass} → r ≡ P p → record_links passes cycle r ≡ []
  unfolding record_links
  pass_links e = rw e

  module _ (table : List PassRecord) (i : ℕ) where
    -- the next record has no more links than are left
    pub record_part : {r : PassRecord} → Next table i r → length (record_links passes cycle r) ≤ length (flat (record_links passes cycle) (drop i table))
    record_part {r} next =
        omega (arith, ap length (gather_more (record_links passes cycle) table i next), length-append (record_links passes cycle r) (flat (record_links passes cycle) (drop (i + 1) table)))

    -- a turn of the loop that writes the links of all records
    pub records_more : {r : PassRecord} → Next table i r → (out : List ℕ) (place next : ℕ) {after goal : List ℕ} → 12 * (place + length (record_links passes cycle r)) ≤ length out
        → after ≡ written job_bytes out place (map L (record_links passes cycle r)) → next ≡ place + length (record_links passes cycle r)
        → written job_bytes out place (map L (flat (record_links passes cycle) (drop i table))) ≡ goal → written job_bytes after next (map L (flat (record_links passes cycle) (drop (i + 1) table))) ≡ goal
    records_more {r} here out place next room wrote on left =
        let many : length (map L (record_links passes cycle r)) ≡ length (record_links passes cycle r) = length-map (record_links passes cycle r) L in
        written_more jobs out place next (map L (flat (record_links passes cycle) (drop i table))) (map L (record_links passes cycle r)) (map L (flat (record_links passes cycle) (drop (i + 1) table)))
        (ap (map L) (gather_more (record_links passes cycle) table i here) ∙ map-append L (record_links passes cycle r) (flat (record_links passes cycle) (drop (i + 1) table))) (omega arith) wrote (omega arith) left

    -- its end
    pub records_end : (out : List ℕ) (place : ℕ) {goal : List ℕ} → length table ≤ i → written job_bytes out place (map L (flat (record_links passes cycle) (drop i table))) ≡ goal → out ≡ goal
    records_end out place h left = written_end jobs out place (map L (flat (record_links passes cycle) (drop i table))) (ap (map L) (gather_end (record_links passes cycle) table i h)) left
