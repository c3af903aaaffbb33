-- Cases A to J, which "are to be proved", every clause of each.
use Rattle.std.specs.Prelude.{ℕ, List, [], ◌∷◌}
use Rattle.records.specs.declared.JobRecord.{JobRecord}
use Rattle.cases.specs.Case.{Case, normalising, scheduling, expands, normalises, schedules, refuses, j, l, s, jobs}

-- B: "the table above", the example of the print program
abbrev pub example_jobs : List JobRecord
example_jobs = j 0 300 0 1000 ∷ j 1 100 0 500 ∷ j 2 100 500 1000 ∷ l 0 1 50 ∷ []

-- C, by its job's cost
abbrev pub table_c : ℕ → List JobRecord
table_c c = j 0 c 0 3 ∷ []

-- D
abbrev pub table_d : List JobRecord
table_d = j 0 10 0 100 ∷ j 1 2 1 3 ∷ []

-- E
abbrev pub table_e : List JobRecord
table_e = j 0 2 0 3 ∷ j 1 2 0 3 ∷ []

-- F: "E with J 2 1 [10, 20]"
abbrev pub table_f : List JobRecord
table_f = j 0 2 0 3 ∷ j 1 2 0 3 ∷ j 2 1 10 20 ∷ []

-- G, by its link's latency
abbrev pub table_g : ℕ → List JobRecord
table_g latency = j 0 1 0 10 ∷ j 1 1 0 4 ∷ l 0 1 latency ∷ []

-- H, and the normal form of G at latency 2
abbrev pub normal_g : List JobRecord
normal_g = j 0 1 0 1 ∷ j 1 1 3 4 ∷ []

-- I, with the links that are added
abbrev pub table_i : List JobRecord → List JobRecord
table_i added = j 0 1 0 100 ∷ j 1 1 0 100 ∷ j 2 1 0 100 ∷ l 0 1 0 ∷ l 1 2 0 ∷ added

-- its normal form
abbrev pub normal_i : List JobRecord
normal_i = j 0 1 0 98 ∷ j 1 1 1 99 ∷ j 2 1 2 100 ∷ l 0 1 0 ∷ l 0 2 1 ∷ l 1 2 0 ∷ []

-- J, by its links
abbrev pub table_j : List JobRecord → List JobRecord
table_j links = j 0 1 0 100 ∷ j 1 1 0 100 ∷ links

-- the table of cases
unfoldable pub starred : List Case
starred =
    -- A: "No records: done, 0 bytes; budget 1 opens 1, budget 0 gives 11"
    expands [] []
    ∷ normalises [] []
    ∷ schedules [] 1 1 []
    ∷ refuses (scheduling 0) [] 11 0
    -- B: the normal windows, the link that stays; "Budget 4 done, budget 3 gives 11"
    ∷ normalises example_jobs (j 0 300 0 350 ∷ j 1 100 350 500 ∷ j 2 100 500 1000 ∷ l 0 1 50 ∷ [])
    ∷ schedules example_jobs 4 4 (s 0 0 300 ∷ s 1 350 450 ∷ s 2 500 600 ∷ [])
    ∷ refuses (scheduling 3) (jobs example_jobs) 11 3
    -- C: both sides
    ∷ normalises (table_c 3) (table_c 3)
    ∷ schedules (table_c 3) 2 2 (s 0 0 3 ∷ [])
    ∷ refuses normalising (jobs (table_c 4)) 8 0
    ∷ refuses (scheduling 2) (jobs (table_c 4)) 8 0
    -- D: "slots 1 at 1 to 3, 0 at 3 to 13; 3 openings. The core must idle at tick 0"
    ∷ schedules table_d 3 3 (s 1 1 3 ∷ s 0 3 13 ∷ [])
    -- E: "10 with 0 openings, also at budget 0"
    ∷ refuses (scheduling 100000) (jobs table_e) 10 0
    ∷ refuses (scheduling 0) (jobs table_e) 10 0
    -- F: "10 with 1 opening; budget 0 gives 11"
    ∷ refuses (scheduling 1) (jobs table_f) 10 1
    ∷ refuses (scheduling 0) (jobs table_f) 11 0
    -- G: the normal form at latency 2, no link; "Latency 3 gives 8"
    ∷ normalises (table_g 2) normal_g
    ∷ refuses normalising (jobs (table_g 3)) 8 0
    ∷ refuses (scheduling 3) (jobs (table_g 3)) 8 0
    -- H: "the same normal form as G at latency 2"
    ∷ normalises normal_g normal_g
    -- I: windows and links; "An added link 0 to 2 of latency 1 changes nothing; of latency 2 it does"
    ∷ normalises (table_i []) normal_i
    ∷ normalises (table_i (l 0 2 1 ∷ [])) normal_i
    ∷ normalises (table_i (l 0 2 2 ∷ [])) (j 0 1 0 97 ∷ j 1 1 1 99 ∷ j 2 1 3 100 ∷ l 0 1 0 ∷ l 0 2 2 ∷ l 1 2 0 ∷ [])
    -- J: "Links 0 to 1 and 1 to 0: 7. Link 0 to 0: 5"
    ∷ refuses normalising (jobs (table_j (l 0 1 0 ∷ l 1 0 0 ∷ []))) 7 0
    ∷ refuses (scheduling 3) (jobs (table_j (l 0 1 0 ∷ l 1 0 0 ∷ []))) 7 0
    ∷ refuses normalising (jobs (table_j (l 0 0 0 ∷ []))) 5 0
    ∷ refuses (scheduling 3) (jobs (table_j (l 0 0 0 ∷ []))) 5 0
    ∷ []
