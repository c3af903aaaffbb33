-- What expanding comes to, for each of its answers: the lowest of 1 to 6 that holds; 9 where the room is short of the exact length; and the records.
-- The length is twelve bytes for each job and each link, and the links' bytes follow straight after the jobs'.
use Prim.Native.Nat.{ℕ, zero, suc, ◌+◌, ◌-◌, ◌*◌, ◌<◌, ◌≤◌}
use native.Mathlib.Omega.{arith}
use mathlib.Core.Path.{◌≡◌, refl, sym, ap, ◌∙◌}
use mathlib.Core.List.{List, ◌++◌, map}
use lib.Dec.{ltb}
use lib.ListN.{length, take, drop, length-append, length-map}
use borrow.Author.Tests.{lt-ltb, le-ltb}
use Rattle.laws.specs.Lists.{flat}
use Rattle.laws.proofs.Adjoining.{flat_append}
use Rattle.records.specs.Record.{job_bytes}
use Rattle.records.specs.Table.{encode}
use Rattle.records.specs.Outcome.{refuse, refused, done, overwrite}
use Rattle.records.specs.declared.JobRecord.TheVariants.{J, L}
use Rattle.records.proofs.Codec.{jobs}
use Rattle.records.proofs.Tables.{length_encode}
use Rattle.records.proofs.Writing.{overwrite_rest}
use Rattle.passes.specs.Expand.{passes_in_order, flows_of, cycle_of, jobs_from, job_count, flow_links, expanded}
use Rattle.passes.specs.Call.{pass_table, passes_number, expanded_bytes, expand_number, expand}
use Rattle.passes.specs.Timely.{in_order}
use Rattle.passes.specs.Arrays.{Accepted}
use Rattle.passes.specs.declared.Passes.{Passes}
use Rattle.passes.proofs.Judging.{number_later, number_refused}
use Rattle.passes.proofs.Instances.{length_jobs}
use Rattle.passes.proofs.Size.{expanded_size}
use Rattle.passes.proofs.Accepted.{passes_order}

module _ (bytes : List ℕ) (room : ℕ) where
  -- 1 to 6: the lowest that holds
  pub refused_right : (n : ℕ) → (n ≡ 0 → ⊥) → passes_number bytes 0 ≡ n → expand bytes room ≡ refused n 0
  unfolding expand expand_number
  refused_right zero some e = absurd (some refl)
  refused_right (suc n) some e = rw (number_refused bytes n e (refuse 9 (ltb room (length (expanded_bytes bytes))) 0))

  module _ (ok : passes_number bytes 0 ≡ 0) where
    -- 9: "output too short", judged on the exact length
    pub short_right : room < length (expanded_bytes bytes) → expand bytes room ≡ refused 9 0
    unfolding expand expand_number
    short_right h = rw (number_later bytes ok (refuse 9 (ltb room (length (expanded_bytes bytes))) 0), lt-ltb room (length (expanded_bytes bytes)) h)

    -- 0: the records' bytes
    pub done_right : length (expanded_bytes bytes) ≤ room → expand bytes room ≡ done 0 (expanded_bytes bytes)
    unfolding expand expand_number
    done_right h = rw (number_later bytes ok (refuse 9 (ltb room (length (expanded_bytes bytes))) 0), le-ltb room (length (expanded_bytes bytes)) h)

module _ (bytes : List ℕ) {passes : Passes} {cycle : ℕ} (ok : Accepted bytes passes cycle) where
  -- the jobs counted are those of the passes handed on
  pub jobs_counted : {jobs : ℕ} → jobs ≡ job_count (cycle_of (pass_table bytes)) (passes_in_order (pass_table bytes)) → jobs ≡ job_count cycle (in_order passes)
  jobs_counted counted = counted ∙ sym (rw (passes_order bytes ok, ok.cycle))

  -- the bytes of its jobs, and those of its links
  abbrev pub job_part : List ℕ
  job_part = encode job_bytes (map J (jobs_from cycle 0 (in_order passes)))

  abbrev pub link_part : List ℕ
  link_part = encode job_bytes (map L (flat (flow_links (pass_table bytes) cycle) (flows_of (pass_table bytes))))

  -- the links' bytes follow straight after the jobs'
  pub parts : expanded_bytes bytes ≡ job_part ++ link_part
  unfolding expanded_bytes expanded encode
  parts =
      flat_append job_bytes (map J (jobs_from (cycle_of (pass_table bytes)) 0 (passes_in_order (pass_table bytes)))) (map L (flat (flow_links (pass_table bytes) (cycle_of (pass_table bytes))) (flows_of (pass_table bytes))))
      ∙ sym (rw (passes_order bytes ok, ok.cycle))

  -- twelve bytes for each job, and for each link
  pub job_part_lem : length job_part ≡ 12 * job_count cycle (in_order passes)
  job_part_lem = omega (arith, length_encode jobs (map J (jobs_from cycle 0 (in_order passes))), length_jobs cycle 0 (in_order passes))

  pub link_part_lem : length link_part ≡ 12 * length (flat (flow_links (pass_table bytes) cycle) (flows_of (pass_table bytes)))
  link_part_lem =
      let links = flat (flow_links (pass_table bytes) cycle) (flows_of (pass_table bytes)) in
      omega (arith, length_encode jobs (map L links), length-map links L)

  -- the exact length, which is at most 1,584 records'
  pub exact_length : length (expanded_bytes bytes) ≡ 12 * job_count cycle (in_order passes) + 12 * length (flat (flow_links (pass_table bytes) cycle) (flows_of (pass_table bytes)))
  exact_length = omega (arith, ap length parts, length-append job_part link_part, job_part_lem, link_part_lem)

  pub small_length : length (expanded_bytes bytes) ≤ 19008
  unfolding expanded_bytes
  small_length = omega (arith, length_encode jobs (expanded (pass_table bytes)), expanded_size bytes ok.number)

  -- so of the jobs and the links that the code counted, which therefore fit its numbers
  module _ {m n : ℕ} (jobs-counted : m ≡ job_count cycle (in_order passes)) (links-counted : n ≡ length (flat (flow_links (pass_table bytes) cycle) (flows_of (pass_table bytes)))) where
    pub exact_counted : length (expanded_bytes bytes) ≡ 12 * m + 12 * n
    exact_counted = omega (arith, exact_length, jobs-counted, links-counted)

    pub small_counted : 12 * m + 12 * n ≤ 19008
    small_counted = omega (arith, exact_counted, small_length)

  -- the jobs written first, and the links into the rest that was lent, are all of it
  pub both_written : (before : List ℕ) (m k : ℕ) {now part : List ℕ} → now ≡ overwrite job_part before → length job_part ≡ m → k ≡ length now - m → part ≡ overwrite link_part (take k (drop m now))
      → take m now ++ (part ++ drop k (drop m now)) ≡ overwrite (expanded_bytes bytes) before
  both_written before m k wrote size long rest = overwrite_rest before job_part link_part m k wrote size long rest ∙ ap (λ all. overwrite all before) (sym parts)
