-- What the functions that expand an accepted table rest on: what its passes, its cycle and each of its records are, and that its links are those of each record.
-- All of it is the law of the table at hand, told of the passes and the cycle that were handed on.
use Prim.Native.Nat.{ℕ, ◌*◌, ◌/◌, ◌≤◌}
use mathlib.Core.Path.{◌≡◌, ap, ◌∙◌}
use mathlib.Core.List.{List, Memᴰ}
use Rattle.std.specs.Prelude.{None}
use lib.ListN.{length}
use Rattle.laws.specs.Lists.{flat}
use Rattle.records.specs.Record.{in_passes}
use Rattle.records.specs.Table.{read_all, unreadable}
use Rattle.records.specs.declared.PassRecord.{PassRecord}
use Rattle.records.proofs.Finding.{whole_records}
use Rattle.passes.specs.declared.Passes.{Passes}
use Rattle.passes.specs.Expand.{passes_in_order, flows_of, flow_links, job_count}
use Rattle.passes.specs.Call.{pass_table}
use Rattle.passes.specs.Timely.{in_order, AllTimely}
use Rattle.passes.specs.Arrays.{Accepted}
use Rattle.passes.specs.Ends.{record_links, FlowFits}
use Rattle.passes.proofs.Held.{held_order}
use Rattle.passes.proofs.Flows.{links_each, record_fits}
use Rattle.passes.proofs.Judging.{Within, accepted, timely_held}

module _ (bytes : List ℕ) {passes : Passes} {cycle : ℕ} (ok : Accepted bytes passes cycle) where
  -- none of 1 to 6 holds
  within : Within bytes
  within = accepted bytes ok.number

  -- its bytes are whole records, each of which can be read
  pub whole_table : (length bytes ≡ 12 * (length bytes / 12)) × (length bytes ≤ 49152)
  whole_table = whole_records bytes within.one

  pub all_read : unreadable (read_all in_passes bytes) ≡ None
  all_read = within.two

  -- what a plan keeps is true of them: its passes' windows lie within their periods, and its cycle is within the limit
  pub all_timely : AllTimely passes
  all_timely = timely_held (pass_table bytes) ok.passes within.sound

  pub cycle_within : cycle ≤ 48000
  cycle_within = rw ok.cycle within.ticks

  -- its passes by rising number are the table's
  pub passes_order : in_order passes ≡ passes_in_order (pass_table bytes)
  passes_order = ap in_order ok.passes ∙ held_order (pass_table bytes)

  -- its jobs are within the limit
  pub jobs_within : job_count cycle (in_order passes) ≤ 48
  jobs_within = rw (passes_order, ok.cycle) within.jobs

  -- a record's flow joins two passes of it
  pub flow_within : (r : PassRecord) → Memᴰ r (pass_table bytes) → FlowFits passes cycle r
  flow_within r m = rw (ok.passes, ok.cycle) (record_fits (pass_table bytes) within.sound within.jobs within.ticks r m)

  -- its links are those of each record
  pub all_links : flat (flow_links (pass_table bytes) cycle) (flows_of (pass_table bytes)) ≡ flat (record_links passes cycle) (pass_table bytes)
  all_links = rw (ok.passes, ok.cycle) (links_each (pass_table bytes) within.sound)
