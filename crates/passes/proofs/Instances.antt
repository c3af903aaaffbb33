-- The jobs of a pass, written one behind the other: a turn of the loop writes an instance, and those after it are left.
use Prim.Native.Nat.{ℕ, ◌+◌, ◌-◌, ◌*◌, ◌<◌, ◌≤◌}
use native.Mathlib.Nat.{suc-mul, div-mul-le_self}
use native.Mathlib.Omega.{arith}
use mathlib.Core.Path.{◌≡◌, refl, sym, ap, ◌∙◌}
use mathlib.Core.List.{List, [], ◌∷◌, ◌++◌, map, append-nil, map-append}
use lib.ListN.{length, get_or, length-map, length-append}
use lib.Seq.{paste}
use Rattle.std.specs.Prelude.{None, Some}
use Rattle.laws.specs.Lists.{count}
use Rattle.laws.proofs.Rows.{length_row}
use Rattle.records.specs.Record.{job_bytes}
use Rattle.records.specs.Table.{encode}
use Rattle.records.specs.Outcome.{overwrite}
use Rattle.records.specs.declared.Pass.{Pass}
use Rattle.records.specs.declared.JobRecord.{JobRecord}
use Rattle.records.specs.declared.JobRecord.TheVariants.{J}
use Rattle.records.proofs.Codec.{jobs}
use Rattle.records.proofs.Writing.{written, written_none, written_one, written_append, written_first, written_more, written_end}
use Rattle.passes.specs.declared.Passes.{Passes}
use Rattle.passes.specs.Expand.{instances, instance_of, jobs_from, job_count}
use Rattle.passes.specs.Timely.{passes_at, in_order}
use Rattle.passes.proofs.Ceiling.{at_absent, at_present, timely, instances_absent}
use Rattle.passes.proofs.Numbers.{passes_from, from_none, from_more, from_end, job_count_more, jobs_append, count_next, count_none}

-- what k periods take is what those before it take and one more
pub periods : (k t : ℕ) → 1 ≤ k → k * t ≡ (k - 1) * t + t
periods k t h = ap (λ n. n * t) (omega arith) ∙ suc-mul (k - 1) t

-- the records of the instances after `before` of `times`
abbrev pub instances_from : Pass → ℕ → ℕ → ℕ → List JobRecord
instances_from pass first before times = map J (map (instance_of pass first) (count (before + 1) (times - before)))

module _ (pass : Pass) (first before times : ℕ) (out : List ℕ) where
  -- the jobs of the instances after some are written by writing the next one's, and behind it those after it
  pub instances_more : before < times → 12 * (first + times) ≤ length out
      → written job_bytes out (first + before) (instances_from pass first before times)
      ≡ written job_bytes (paste out (12 * (first + before)) (job_bytes (J (instance_of pass first (before + 1)))) 12) (first + (before + 1)) (instances_from pass first (before + 1) times)
  instances_more h room =
      sym (written_more jobs out (first + before) (first + (before + 1)) (instances_from pass first before times) (J (instance_of pass first (before + 1)) ∷ []) (instances_from pass first (before + 1) times)
      (ap (λ ks. map J (map (instance_of pass first) ks)) (count_next before times h)) (omega arith) (written_one jobs out (first + before) (J (instance_of pass first (before + 1)))) (omega arith) refl)

  -- after all of them nothing is written
  pub instances_end : times ≤ before → written job_bytes out (first + before) (instances_from pass first before times) ≡ out
  instances_end h = sym (written_end jobs out (first + before) (instances_from pass first before times) (ap (λ ks. map J (map (instance_of pass first) ks)) (count_none before times h)) refl)

-- what writing the jobs of a pass's instances rests on
pub ruleset instances_written = (instances_more, instances_end)

module _ (passes : Passes) (n cycle first : ℕ) where
  -- where there is no pass, no job is written
  pub no_jobs : get_or passes.by_number n None ≡ None → (out : List ℕ) → out ≡ written job_bytes out first (map J (jobs_from cycle first (passes_at passes n)))
  unfolding jobs_from
  no_jobs e out = rw (at_absent passes n e) (written_none jobs out first)

  module _ {p : Pass} (e : get_or passes.by_number n None ≡ Some p) {times : ℕ} (here : times ≡ job_count cycle (passes_at passes n)) where
    -- where there is one, its instances are as many as its period goes into the cycle
    times_of : times ≡ instances cycle p
    unfolding job_count instances
    times_of = omega (arith, ap (job_count cycle) (at_present passes n e))

    -- their periods are within the cycle
    pub times_span : times * p.period ≤ cycle
    unfolding instances
    times_span = rw times_of (div-mul-le_self cycle p.period)

    -- and they are its jobs
    pub pass_jobs : (out : List ℕ) {after : List ℕ} → after ≡ written job_bytes out first (map J (map (instance_of p first) (count 1 times)))
        → after ≡ written job_bytes out first (map J (jobs_from cycle first (passes_at passes n)))
    unfolding jobs_from instances instance_of
    pass_jobs out wrote = wrote ∙ ap (λ rs. written job_bytes out first rs) same
      where
        same : map J (map (instance_of p first) (count 1 times)) ≡ map J (jobs_from cycle first (passes_at passes n))
        same = rw (at_present passes n e, times_of, append-nil (map (instance_of p first) (count 1 (instances cycle p))))

-- what writing a pass's jobs rests on
pub ruleset pass_written = (instances_absent, no_jobs, times_span, pass_jobs, timely)

-- as many jobs are written as the passes have
pub length_jobs : (cycle first : ℕ) (ps : List Pass) → length (map J (jobs_from cycle first ps)) ≡ job_count cycle ps
unfolding jobs_from job_count
length_jobs cycle first ps = length-map (jobs_from cycle first ps) J ∙ go first ps
  where
    go : (first : ℕ) (ps : List Pass) → length (jobs_from cycle first ps) ≡ job_count cycle ps
    go first [] = refl
    go first (p ∷ ps) =
        omega (arith, length-append (map (instance_of p first) (count 1 (instances cycle p))) (jobs_from cycle (first + instances cycle p) ps), length_row (instance_of p first) 1 (instances cycle p), go (first + instances cycle p) ps)

module _ (passes : Passes) (n cycle first : ℕ) (out : List ℕ) where
  -- the jobs of the passes from a number on are written by writing those of the pass with it, and behind them those of the passes from the next number on
  pub jobs_more : n < 24 → 12 * (first + job_count cycle (passes_at passes n)) ≤ length out
      → written job_bytes out first (map J (jobs_from cycle first (passes_from passes n)))
      ≡ written job_bytes (written job_bytes out first (map J (jobs_from cycle first (passes_at passes n)))) (first + job_count cycle (passes_at passes n))
      (map J (jobs_from cycle (first + job_count cycle (passes_at passes n)) (passes_from passes (n + 1))))
  jobs_more h room = ap (written job_bytes out first) parts ∙ sym (ap (λ k. written job_bytes (written job_bytes out first own) (first + k) later) (sym many) ∙ written_append jobs out first own later (omega (arith, many)))
    where
      own : List JobRecord
      own = map J (jobs_from cycle first (passes_at passes n))

      later : List JobRecord
      later = map J (jobs_from cycle (first + job_count cycle (passes_at passes n)) (passes_from passes (n + 1)))

      many : length own ≡ job_count cycle (passes_at passes n)
      many = length_jobs cycle first (passes_at passes n)

      parts : map J (jobs_from cycle first (passes_from passes n)) ≡ own ++ later
      parts = ap (λ ps. map J (jobs_from cycle first ps)) (from_more passes n h)
          ∙ ap (map J) (jobs_append cycle first (passes_at passes n) (passes_from passes (n + 1)))
          ∙ map-append J (jobs_from cycle first (passes_at passes n)) (jobs_from cycle (first + job_count cycle (passes_at passes n)) (passes_from passes (n + 1)))

  -- from 24 on nothing is written
  pub jobs_end : 24 ≤ n → written job_bytes out first (map J (jobs_from cycle first (passes_from passes n))) ≡ out
  unfolding jobs_from
  jobs_end h = ap (λ ps. written job_bytes out first (map J (jobs_from cycle first ps))) (from_end passes n h) ∙ sym (written_none jobs out first)

-- the jobs of all passes are written from the first place on
pub jobs_start : (passes : Passes) (cycle : ℕ) (out : List ℕ) → written job_bytes out 0 (map J (jobs_from cycle 0 (passes_from passes 0))) ≡ overwrite (encode job_bytes (map J (jobs_from cycle 0 (in_order passes)))) out
jobs_start passes cycle out =
    ap (λ ps. written job_bytes out 0 (map J (jobs_from cycle 0 ps))) (sym (from_none passes)) ∙ written_first jobs out (map J (jobs_from cycle 0 (in_order passes)))

-- what writing the jobs of all passes rests on
pub ruleset jobs_written = (from_none, job_count_more, jobs_start, jobs_more, jobs_end)
