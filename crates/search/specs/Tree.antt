-- The open sequences in the order of words, the schedule among them, and the openings.
use Rattle.std.specs.Prelude.{ℕ, zero, suc, ◌+◌, Bool, true, false, ◌&&◌, List, [], ◌∷◌, ◌++◌, length, eqb, Option, None, Some}
use Rattle.records.specs.declared.JobRecord.{JobRecord}
use Rattle.jobs.specs.Jobs.{numbers}
use Rattle.search.specs.Run.{may_follow}
use Rattle.search.specs.Live.{live}

-- job k may follow an open sequence, and what it makes of it is live
unfoldable pub opens : List JobRecord → List ℕ → ℕ → Bool
opens table q k = may_follow table q k && live table (k ∷ q)

-- trying each of some jobs next: the open sequences that go on from q with one of them, as `below` gives them
unfoldable pub try_each : List JobRecord → (List ℕ → List (List ℕ)) → List ℕ → List ℕ → List (List ℕ)
try_each table below q [] = []
try_each table below q (k ∷ ks) =
    elim (opens table q k) [ true ↦ below (k ∷ q) ++ try_each table below q ks | false ↦ try_each table below q ks ]

-- an open sequence and all that go on from it by at most n jobs, "a beginning before its extensions"
unfoldable pub open_from : List JobRecord → ℕ → List ℕ → List (List ℕ)
open_from table zero q = q ∷ []
open_from table (suc n) q = q ∷ try_each table (open_from table n) q (numbers table)

-- all open sequences: "open when it and every beginning of it, the empty one included, are live"
unfoldable pub open_sequences : List JobRecord → List (List ℕ)
open_sequences table = elim (live table []) [ true ↦ open_from table (length (numbers table)) [] | false ↦ [] ]

-- the sequence holds all n jobs
abbrev pub full : ℕ → List ℕ → Bool
full n q = eqb (length q) n

-- "the first open sequence that holds all jobs"
unfoldable pub first_full : ℕ → List (List ℕ) → Option (List ℕ)
first_full n [] = None
first_full n (q ∷ qs) = elim (full n q) [ true ↦ Some q | false ↦ first_full n qs ]

-- "the number of open sequences up to and including it; when there is none, the number of all open sequences"
unfoldable pub up_to_full : ℕ → List (List ℕ) → ℕ
up_to_full n [] = 0
up_to_full n (q ∷ qs) = elim (full n q) [ true ↦ 1 | false ↦ up_to_full n qs + 1 ]

-- the schedule's sequence, if there is one
unfoldable pub schedule : List JobRecord → Option (List ℕ)
schedule table = first_full (length (numbers table)) (open_sequences table)

-- the openings
unfoldable pub openings : List JobRecord → ℕ
openings table = up_to_full (length (numbers table)) (open_sequences table)
