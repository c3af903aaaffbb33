-- What judging asks of the records of either kind of table.
use Rattle.std.specs.Prelude.{ℕ, ◌+◌, Bool, ◌||◌, Option, Some, None, eqb, ltb}
use Rattle.records.specs.declared.PassRecord.{PassRecord}
use Rattle.records.specs.declared.PassRecord.TheVariants.{P, F}
use Rattle.records.specs.declared.JobRecord.{JobRecord}
use Rattle.records.specs.declared.JobRecord.TheVariants.{J, L}

-- the largest number that a record may give, the number that it gives, the two numbers that it joins, and whether a value of it is out of its bounds
pub record Rules (A : Type 0) : Type 0 where
  pub largest : ℕ
  pub number : A → Option ℕ
  pub ends : A → Option (ℕ × ℕ)
  pub bad_value : A → Bool

-- a pass gives its number
abbrev pub pass_number : PassRecord → Option ℕ
pass_number (P p) = Some p.number
pass_number (F f) = None

-- a flow joins its source and its target
abbrev pub flow_ends : PassRecord → Option (ℕ × ℕ)
flow_ends (P p) = None
flow_ends (F f) = Some (f.source, f.target)

-- 4: "cost 0; period 0; phase plus finish within over period; .. latency over 48,000"
abbrev pub bad_pass_value : PassRecord → Bool
bad_pass_value (P p) = eqb p.cost 0 || eqb p.period 0 || ltb p.period (p.phase + p.within)
bad_pass_value (F f) = ltb 48000 f.latency

-- the rules of a pass table: "a P number over 23"
abbrev pub pass_rules : Rules PassRecord
pass_rules = record { largest = 23; number = pass_number; ends = flow_ends; bad_value = bad_pass_value }

-- a job gives its number
abbrev pub job_number : JobRecord → Option ℕ
job_number (J j) = Some j.number
job_number (L l) = None

-- a link joins its from job and its to job
abbrev pub link_ends : JobRecord → Option (ℕ × ℕ)
link_ends (J j) = None
link_ends (L l) = Some (l.from, l.to)

-- 4: "cost 0; .. deadline over 48,000; latency over 48,000"
abbrev pub bad_job_value : JobRecord → Bool
bad_job_value (J j) = eqb j.cost 0 || ltb 48000 j.deadline
bad_job_value (L l) = ltb 48000 l.latency

-- the rules of a job table: "a J number over 47"
abbrev pub job_rules : Rules JobRecord
job_rules = record { largest = 47; number = job_number; ends = link_ends; bad_value = bad_job_value }
