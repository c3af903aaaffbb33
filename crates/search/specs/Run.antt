-- Sequences and running one. "All of this section speaks of the normal form": `table` is one.
-- A sequence is a list of job numbers with the last job first, so that each beginning of it is a tail of the list.
use Rattle.std.specs.Prelude.{ℕ, ◌+◌, max, Bool, true, cond, not, ◌&&◌, ◌||◌, List, [], ◌∷◌, eqb}
use Rattle.laws.specs.Lists.{any, all}
use Rattle.records.specs.Record.{slot}
use Rattle.records.specs.declared.Slot.{Slot}
use Rattle.records.specs.declared.JobRecord.{JobRecord}
use Rattle.records.specs.declared.JobRecord.TheVariants.{J, L}
use Rattle.jobs.specs.Jobs.{cost, release}

-- a job is in the sequence
unfoldable pub has : List ℕ → ℕ → Bool
has q k = any (eqb k) q

-- a link leads to job k only from jobs in the sequence
abbrev pub linked_from : List ℕ → ℕ → JobRecord → Bool
linked_from q k (J j) = true
linked_from q k (L l) = not (eqb l.to k) || has q l.from

-- "a list of distinct jobs in which each job's linked predecessors stand earlier": job k may follow the sequence q
unfoldable pub may_follow : List JobRecord → List ℕ → ℕ → Bool
may_follow table q k = not (has q k) && all (linked_from q k) table

-- when a job ended in a run, its slots given with the last one first
unfoldable pub end_in : List Slot → ℕ → ℕ
end_in [] i = 0
end_in (s ∷ slots) i = cond (eqb s.number i) s.end (end_in slots i)

-- "the end of the job before it (0 for the first)": when the core is free
unfoldable pub free : List Slot → ℕ
free [] = 0
free (s ∷ slots) = s.end

-- "each predecessor's end plus latency": the largest over the links to job k
unfoldable pub links_allow : List JobRecord → List Slot → ℕ → ℕ
links_allow [] slots k = 0
links_allow (J j ∷ table) slots k = links_allow table slots k
links_allow (L l ∷ table) slots k = max (cond (eqb l.to k) (end_in slots l.from + l.latency) 0) (links_allow table slots k)

-- "each job starts at the largest of the end of the job before it (0 for the first), its release, and each predecessor's end plus latency"
unfoldable pub start_after : List JobRecord → List Slot → ℕ → ℕ
start_after table slots k = max (free slots) (max (release table k) (links_allow table slots k))

-- the slots with that of job k, run after them
unfoldable pub run_next : List JobRecord → ℕ → List Slot → List Slot
run_next table k slots = slot k (start_after table slots k) (start_after table slots k + cost table k) ∷ slots

-- "Run it as early as possible": the slots of a sequence, the last one first
unfoldable pub run : List JobRecord → List ℕ → List Slot
run table [] = []
run table (k ∷ q) = run_next table k (run table q)
