-- The five 12-byte records: what reading twelve bytes finds, and the twelve bytes of a record. `b k` is byte k of the record.
use Rattle.std.specs.Prelude.{ℕ, ◌≡◌, refl, ◌<◌, Bool, cond, ◌&&◌, List, ◌∷◌, ◌++◌, eqb, replicate, Option, None, Some}
use Rattle.records.specs.Bytes.{word, pair, zeros, twelve, bytes_from}
use Rattle.records.specs.declared.Pass.{Pass}
use Rattle.records.specs.declared.Flow.{Flow}
use Rattle.records.specs.declared.Job.{Job}
use Rattle.records.specs.declared.Link.{Link}
use Rattle.records.specs.declared.Slot.{Slot}
use Rattle.records.specs.declared.PassRecord.{PassRecord}
use Rattle.records.specs.declared.PassRecord.TheVariants.{P, F}
use Rattle.records.specs.declared.JobRecord.{JobRecord}
use Rattle.records.specs.declared.JobRecord.TheVariants.{J, L}

-- a pass by its number, cost, period, phase and finish within
abbrev pub pass : ℕ → ℕ → ℕ → ℕ → ℕ → Pass
pass n c t p w = record { number = n; cost = c; period = t; phase = p; within = w }

-- a flow by its source, target and latency
abbrev pub flow : ℕ → ℕ → ℕ → Flow
flow s t l = record { source = s; target = t; latency = l }

-- a job by its number, cost, release and deadline
abbrev pub job : ℕ → ℕ → ℕ → ℕ → Job
job n c r d = record { number = n; cost = c; release = r; deadline = d }

-- a link by its from job, to job and latency
abbrev pub link : ℕ → ℕ → ℕ → Link
link i j l = record { from = i; to = j; latency = l }

-- a slot by its job's number, start and end
abbrev pub slot : ℕ → ℕ → ℕ → Slot
slot n s e = record { number = n; start = s; end = e }

-- the record's kind: the letters P, F, J, L and S as bytes
abbrev pub kind : (ℕ → ℕ) → ℕ → Bool
kind b letter = eqb (b 0) letter

-- pass: `P`, pass number, cost 16, period 16, phase 16, finish within 16, zz
unfoldable pub read_pass : (ℕ → ℕ) → Option PassRecord
read_pass b = cond (zeros b 10 2) (Some (P (pass (b 1) (word (b 2) (b 3)) (word (b 4) (b 5)) (word (b 6) (b 7)) (word (b 8) (b 9))))) None

-- flow: `F`, source pass, target pass, z, latency 16, six z
unfoldable pub read_flow : (ℕ → ℕ) → Option PassRecord
read_flow b = cond (zeros b 3 1 && zeros b 6 6) (Some (F (flow (b 1) (b 2) (word (b 4) (b 5))))) None

-- job: `J`, job number, cost 16, release 16, deadline 16, four z
unfoldable pub read_job : (ℕ → ℕ) → Option JobRecord
read_job b = cond (zeros b 8 4) (Some (J (job (b 1) (word (b 2) (b 3)) (word (b 4) (b 5)) (word (b 6) (b 7))))) None

-- link: `L`, from job, to job, z, latency 16, six z
unfoldable pub read_link : (ℕ → ℕ) → Option JobRecord
read_link b = cond (zeros b 3 1 && zeros b 6 6) (Some (L (link (b 1) (b 2) (word (b 4) (b 5))))) None

-- slot: `S`, job number, start 16, end 16, six z
unfoldable pub read_slot : (ℕ → ℕ) → Option Slot
read_slot b = cond (zeros b 6 6) (Some (slot (b 1) (word (b 2) (b 3)) (word (b 4) (b 5)))) None

-- "A pass table holds P and F": what a record of one is, if it can be read
unfoldable pub in_passes : (ℕ → ℕ) → Option PassRecord
in_passes b = cond (kind b 0x50) (read_pass b) (cond (kind b 0x46) (read_flow b) None)

-- "a job table J and L"
unfoldable pub in_jobs : (ℕ → ℕ) → Option JobRecord
in_jobs b = cond (kind b 0x4a) (read_job b) (cond (kind b 0x4c) (read_link b) None)

-- "a schedule S"
unfoldable pub in_schedule : (ℕ → ℕ) → Option Slot
in_schedule b = cond (kind b 0x53) (read_slot b) None

-- what a record of a pass table is, its twelve bytes say
pub passes_local : (b : ℕ → ℕ) → in_passes b ≡ in_passes (bytes_from (twelve b) 0)
unfolding in_passes read_pass read_flow
passes_local b = refl

-- and what one of a job table is
pub jobs_local : (b : ℕ → ℕ) → in_jobs b ≡ in_jobs (bytes_from (twelve b) 0)
unfolding in_jobs read_job read_link
jobs_local b = refl

-- the twelve bytes of a record of a pass table
unfoldable pub pass_bytes : PassRecord → List ℕ
pass_bytes (P p) = 0x50 ∷ p.number ∷ pair p.cost ++ pair p.period ++ pair p.phase ++ pair p.within ++ replicate 2 0
pass_bytes (F f) = 0x46 ∷ f.source ∷ f.target ∷ 0 ∷ pair f.latency ++ replicate 6 0

-- those of a job table
unfoldable pub job_bytes : JobRecord → List ℕ
job_bytes (J j) = 0x4a ∷ j.number ∷ pair j.cost ++ pair j.release ++ pair j.deadline ++ replicate 4 0
job_bytes (L l) = 0x4c ∷ l.from ∷ l.to ∷ 0 ∷ pair l.latency ++ replicate 6 0

-- those of a schedule
unfoldable pub slot_bytes : Slot → List ℕ
slot_bytes s = 0x53 ∷ s.number ∷ pair s.start ++ pair s.end ++ replicate 6 0

-- the fields of a record of a pass table fit their bytes
abbrev pub PassFits : PassRecord → Type 0
PassFits (P p) = (p.number < 256) × (p.cost < 65536) × (p.period < 65536) × (p.phase < 65536) × (p.within < 65536)
PassFits (F f) = (f.source < 256) × (f.target < 256) × (f.latency < 65536)

-- those of a job table
abbrev pub JobFits : JobRecord → Type 0
JobFits (J j) = (j.number < 256) × (j.cost < 65536) × (j.release < 65536) × (j.deadline < 65536)
JobFits (L l) = (l.from < 256) × (l.to < 256) × (l.latency < 65536)

-- those of a schedule
abbrev pub SlotFits : Slot → Type 0
SlotFits s = (s.number < 256) × (s.start < 65536) × (s.end < 65536)
