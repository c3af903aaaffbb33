-- The links of a flow as the code finds them: an instance of the source has one exactly when its period starts with a period of the target.
use Rattle.std.specs.Prelude.{ℕ, ◌+◌, ◌-◌, ◌*◌, ◌/◌, ◌%◌, ◌<◌, ◌≤◌, Bool, List, [], eqb}
use Rattle.laws.specs.Lists.{count, only, flat}
use Rattle.records.specs.Record.{link}
use Rattle.records.specs.declared.Flow.{Flow}
use Rattle.records.specs.declared.Link.{Link}
use Rattle.records.specs.declared.PassRecord.{PassRecord}
use Rattle.records.specs.declared.PassRecord.TheVariants.{P, F}
use Rattle.passes.specs.Expand.{job_count, first_job}
use Rattle.passes.specs.Timely.{passes_at, period_at, in_order}
use Rattle.passes.specs.declared.Passes.{Passes}

-- what the links of a flow are made of: its source's and its target's first job and period, and how many instances the source has
pub record FlowEnds : Type 0 where
  pub from : ℕ
  pub to : ℕ
  pub source_period : ℕ
  pub target_period : ℕ
  pub instances : ℕ

-- those of a flow between two of the passes
unfoldable pub ends_of : Passes → ℕ → Flow → FlowEnds
ends_of passes cycle f = record {
  from = first_job cycle (in_order passes) f.source;
  to = first_job cycle (in_order passes) f.target;
  source_period = period_at passes f.source;
  target_period = period_at passes f.target;
  instances = job_count cycle (passes_at passes f.source);
}

-- the period of instance i of the source starts with a period of the target
unfoldable pub matches : FlowEnds → ℕ → Bool
matches e i = eqb ((i - 1) * e.source_period % e.target_period) 0

-- the link of instance i of the source, if it has one
unfoldable pub matched : FlowEnds → ℕ → ℕ → List Link
matched e latency i = only (matches e i) (link (e.from + (i - 1)) (e.to + (i - 1) * e.source_period / e.target_period) latency)

-- the links of a flow with this latency
unfoldable pub matched_links : FlowEnds → ℕ → List Link
matched_links e latency = flat (matched e latency) (count 1 e.instances)

-- the links of a record, if it is a flow
unfoldable pub record_links : Passes → ℕ → PassRecord → List Link
record_links passes cycle (P p) = []
record_links passes cycle (F f) = matched_links (ends_of passes cycle f) f.latency

-- the jobs that the links name are numbered below 48, and no instance is released past 48,000
pub record EndsFit (e : FlowEnds) : Type 0 where
  pub above : 0 < e.target_period
  pub span : e.instances * e.source_period ≤ 48000
  pub from : e.from + e.instances ≤ 48
  pub to : (i : ℕ) → 1 ≤ i → i ≤ e.instances → e.to + (i - 1) * e.source_period / e.target_period < 48

-- a record's flow, if it is one, joins two passes so
unfoldable pub FlowFits : Passes → ℕ → PassRecord → Type 0
FlowFits passes cycle (P p) = Unit {0}
FlowFits passes cycle (F f) = (f.source < 24) × (f.target < 24) × EndsFit (ends_of passes cycle f)
