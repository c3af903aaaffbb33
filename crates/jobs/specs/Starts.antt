-- Start times, chains and rings in plain words. A choice of start times gives each job number its start.
use Rattle.std.specs.Prelude.{ℕ, ◌+◌, ◌≤◌, ◌≡◌, ◌↔◌, ◌⊎◌}
use mathlib.Core.List.{List, Memᴰ}
use Rattle.laws.specs.Lists.{Every}
use Rattle.records.specs.Record.{link}
use Rattle.records.specs.declared.Job.{Job}
use Rattle.records.specs.declared.JobRecord.{JobRecord}
use Rattle.records.specs.declared.JobRecord.TheVariants.{J, L}
use Rattle.jobs.specs.Jobs.{cost}

-- what a record asks of start times: "every job starts at or after its release and ends (start + cost) by its deadline,
-- and for every link the to job starts at or after the from job's end plus the latency"
abbrev pub Meets : List JobRecord → (ℕ → ℕ) → JobRecord → Type 0
Meets table start (J j) = (j.release ≤ start j.number) × (start j.number + j.cost ≤ j.deadline)
Meets table start (L l) = start l.from + cost table l.from + l.latency ≤ start l.to

-- "Start times are permitted when .."
unfoldable pub Permitted : List JobRecord → (ℕ → ℕ) → Type 0
Permitted table start = Every (Meets table start) table

-- two jobs do not overlap on the core
abbrev pub Apart : (ℕ → ℕ) → Job → Job → Type 0
Apart start a b = (start a.number + a.cost ≤ start b.number) ⊎ (start b.number + b.cost ≤ start a.number)

-- "whole-number starts" that meet "every release, deadline and link with no two jobs overlapping"
pub record Feasible (table : List JobRecord) (start : ℕ → ℕ) : Type 0 where
  pub permitted : Permitted table start
  pub apart : (a b : Job) → Memᴰ (J a) table → Memᴰ (J b) table → (a.number ≡ b.number → ⊥) → Apart start a b

-- the table holds a job with this number and this cost
abbrev pub HasCost : List JobRecord → ℕ → ℕ → Type 0
HasCost table n c = (j : Job) × Memᴰ (J j) table × (j.number ≡ n) × (j.cost ≡ c)

-- "the same job numbers with the same costs"
abbrev pub SameJobs : List JobRecord → List JobRecord → Type 0
SameJobs t u = (n c : ℕ) → HasCost t n c ↔ HasCost u n c

-- "permit the same start times"
abbrev pub SameStarts : List JobRecord → List JobRecord → Type 0
SameStarts t u = (start : ℕ → ℕ) → Permitted t start ↔ Permitted u start

-- a chain of links from i to j, and its sum of (cost + latency): one link, or a link and a chain that follows it
pub data Chain (table : List JobRecord) : ℕ → ℕ → ℕ → Type 0 where
  one : {i j l : ℕ} → Memᴰ (L (link i j l)) table → Chain table i j (cost table i + l)
  follow : {i k j l w : ℕ} → Memᴰ (L (link i k l)) table → Chain table k j w → Chain table i j (cost table i + l + w)

-- "the largest sum of (cost + latency) along any chain of links from i to j"
pub record Gap (table : List JobRecord) (i j gap : ℕ) : Type 0 where
  pub attained : Chain table i j gap
  pub bounds : (w : ℕ) → Chain table i j w → w ≤ gap

-- "the links form a ring": a chain leads from a job to itself
unfoldable pub Ring : List JobRecord → Type 0
Ring table = (i : ℕ) × (w : ℕ) × Chain table i i w

-- the earliest permitted start of a job, and the latest
pub record Earliest (table : List JobRecord) (j time : ℕ) : Type 0 where
  pub start : ℕ → ℕ
  pub permitted : Permitted table start
  pub attained : start j ≡ time
  pub bounds : (other : ℕ → ℕ) → Permitted table other → time ≤ other j

pub record Latest (table : List JobRecord) (j time : ℕ) : Type 0 where
  pub start : ℕ → ℕ
  pub permitted : Permitted table start
  pub attained : start j ≡ time
  pub bounds : (other : ℕ → ℕ) → Permitted table other → other j ≤ time
