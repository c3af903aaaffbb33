-- The words of "The order of the search" as plain mathematics: what the search's answers mean.
use Rattle.std.specs.Prelude.{ℕ, ◌+◌, ◌<◌, ◌≤◌, max, ◌≡◌, ◌⊎◌, length}
use mathlib.Core.List.{List, [], ◌∷◌, ◌++◌, reverse, map, Memᴰ}
use Rattle.laws.specs.Lists.{Every, total}
use Rattle.records.specs.declared.Job.{Job}
use Rattle.records.specs.declared.Link.{Link}
use Rattle.records.specs.declared.JobRecord.{JobRecord}
use Rattle.records.specs.declared.JobRecord.TheVariants.{J, L}
use Rattle.jobs.specs.Jobs.{deadline}
use Rattle.search.specs.Run.{free, run}
use Rattle.search.specs.Live.{remaining}

-- job k of the table may follow the sequence q: it is not in it, and "each job's linked predecessors stand earlier"
pub record MayFollow (table : List JobRecord) (q : List ℕ) (k : ℕ) : Type 0 where
  pub job : Job
  pub of_table : Memᴰ (J job) table
  pub numbered : job.number ≡ k
  pub distinct : Memᴰ k q → ⊥
  pub linked : (l : Link) → Memᴰ (L l) table → l.to ≡ k → Memᴰ l.from q

-- "A sequence is a list of distinct jobs in which each job's linked predecessors stand earlier"; here the last job stands first
abbrev pub Sequence : List JobRecord → List ℕ → Type 0
Sequence table [] = Unit {0}
Sequence table (k ∷ q) = MayFollow table q k × Sequence table q

-- "With t the end of the last job (0 for none), a sequence is live when"; a largest deadline is reached exactly when one of them is
pub record Live (table : List JobRecord) (q : List ℕ) : Type 0 where
  pub on_time : Every (λ s. s.end ≤ deadline table s.number) (run table q)
  pub each_fits : Every (λ j. max (free (run table q)) j.release + j.cost ≤ j.deadline) (remaining table q)
  pub all_fit :
      (remaining table q ≡ [])
      ⊎ ((j : Job) × Memᴰ j (remaining table q) × (free (run table q) + total (map (λ k. k.cost) (remaining table q)) ≤ j.deadline))

-- "A sequence is open when it and every beginning of it, the empty one included, are live"
pub record Open (table : List JobRecord) (q : List ℕ) : Type 0 where
  pub sequence : Sequence table q
  pub live : (later beginning : List ℕ) → later ++ beginning ≡ q → Live table beginning

-- "Sequences are ordered as words are: by the first job number that differs, a beginning before its extensions"; here in running order
pub data Before : List ℕ → List ℕ → Type 0 where
  beginning : {k : ℕ} {w : List ℕ} → Before [] (k ∷ w)
  differs : {k m : ℕ} {v w : List ℕ} → k < m → Before (k ∷ v) (m ∷ w)
  same : {k : ℕ} {v w : List ℕ} → Before v w → Before (k ∷ v) (k ∷ w)

-- the sequence holds all jobs
abbrev pub Full : List JobRecord → List ℕ → Type 0
Full table q = remaining table q ≡ []

-- "The schedule is the first open sequence that holds all jobs"
pub record First (table : List JobRecord) (q : List ℕ) : Type 0 where
  pub is_open : Open table q
  pub is_full : Full table q
  pub first : (other : List ℕ) → Open table other → Full table other → (other ≡ q) ⊎ Before (reverse q) (reverse other)

-- a list of sequences is in order, each standing once: each stands before all after it
abbrev pub InOrder : List (List ℕ) → Type 0
InOrder [] = Unit {0}
InOrder (q ∷ qs) = Every (λ other. Before (reverse q) (reverse other)) qs × InOrder qs

-- "the number of open sequences": the length of a list of just the open sequences, in order
pub record Lists (table : List JobRecord) (qs : List (List ℕ)) : Type 0 where
  pub are_open : Every (Open table) qs
  pub complete : (q : List ℕ) → Open table q → Memᴰ q qs
  pub in_order : InOrder qs

-- "The openings are the number of open sequences up to and including it; when there is none, the number of all open sequences"
pub data Openings (table : List JobRecord) : ℕ → Type 0 where
  up_to : {q : List ℕ} (earlier later : List (List ℕ)) → First table q → Lists table (earlier ++ q ∷ later) → Openings table (length earlier + 1)
  all : {qs : List (List ℕ)} → ((q : List ℕ) → Open table q → Full table q → ⊥) → Lists table qs → Openings table (length qs)
