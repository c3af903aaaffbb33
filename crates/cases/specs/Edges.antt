-- Both sides of each bound that A to L leave untold, and the bytes of the records written out, by hand.
use Rattle.std.specs.Prelude.{ℕ, List, [], ◌∷◌, ◌++◌, replicate}
use Rattle.records.specs.declared.PassRecord.{PassRecord}
use Rattle.records.specs.declared.JobRecord.{JobRecord}
use Rattle.cases.specs.Case.{Case, expanding, normalising, scheduling, gives, expands, normalises, schedules, refuses, refuses_in, in_room, p, f, j, l, s, passes, jobs}

-- the example's tables and its schedule as plain bytes
abbrev pass_bytes : List ℕ
pass_bytes =
    0x50 ∷ 0 ∷ 0x2c ∷ 0x01 ∷ 0xe8 ∷ 0x03 ∷ 0 ∷ 0 ∷ 0xe8 ∷ 0x03 ∷ 0 ∷ 0
    ∷ 0x50 ∷ 1 ∷ 0x64 ∷ 0x00 ∷ 0xf4 ∷ 0x01 ∷ 0 ∷ 0 ∷ 0xf4 ∷ 0x01 ∷ 0 ∷ 0
    ∷ 0x46 ∷ 0 ∷ 1 ∷ 0 ∷ 0x32 ∷ 0x00 ∷ 0 ∷ 0 ∷ 0 ∷ 0 ∷ 0 ∷ 0
    ∷ []

abbrev job_bytes : List ℕ
job_bytes =
    0x4a ∷ 0 ∷ 0x2c ∷ 0x01 ∷ 0x00 ∷ 0x00 ∷ 0xe8 ∷ 0x03 ∷ 0 ∷ 0 ∷ 0 ∷ 0
    ∷ 0x4a ∷ 1 ∷ 0x64 ∷ 0x00 ∷ 0x00 ∷ 0x00 ∷ 0xf4 ∷ 0x01 ∷ 0 ∷ 0 ∷ 0 ∷ 0
    ∷ 0x4a ∷ 2 ∷ 0x64 ∷ 0x00 ∷ 0xf4 ∷ 0x01 ∷ 0xe8 ∷ 0x03 ∷ 0 ∷ 0 ∷ 0 ∷ 0
    ∷ 0x4c ∷ 0 ∷ 1 ∷ 0 ∷ 0x32 ∷ 0x00 ∷ 0 ∷ 0 ∷ 0 ∷ 0 ∷ 0 ∷ 0
    ∷ []

abbrev slot_bytes : List ℕ
slot_bytes =
    0x53 ∷ 0 ∷ 0x00 ∷ 0x00 ∷ 0x2c ∷ 0x01 ∷ 0 ∷ 0 ∷ 0 ∷ 0 ∷ 0 ∷ 0
    ∷ 0x53 ∷ 1 ∷ 0x5e ∷ 0x01 ∷ 0xc2 ∷ 0x01 ∷ 0 ∷ 0 ∷ 0 ∷ 0 ∷ 0 ∷ 0
    ∷ 0x53 ∷ 2 ∷ 0xf4 ∷ 0x01 ∷ 0x58 ∷ 0x02 ∷ 0 ∷ 0 ∷ 0 ∷ 0 ∷ 0 ∷ 0
    ∷ []

-- two passes of period 1, and flows from the first to the second
abbrev flows : ℕ → List PassRecord
flows n = p 0 1 1 0 1 ∷ p 1 1 1 0 1 ∷ replicate n (f 0 1 0)

-- a job table that is refused, by normalising and by scheduling alike
abbrev both : List JobRecord → ℕ → List Case
both table number = refuses normalising (jobs table) number 0 ∷ refuses (scheduling 9) (jobs table) number 0 ∷ []

-- a pass table that is refused
abbrev bad : List PassRecord → ℕ → Case
bad table number = refuses expanding (passes table) number 0

-- the table of edges
unfoldable pub edges : List Case
edges =
    -- the bytes themselves
    gives expanding pass_bytes 0 job_bytes
    ∷ gives (scheduling 4) job_bytes 4 slot_bytes
    -- 1: one record over the longest table; that one is read
    ∷ refuses normalising (replicate 49164 0) 1 0
    ∷ refuses normalising (replicate 49152 0) 2 0
    -- 2: z bytes of each kind
    ∷ refuses expanding (replicate 12 0x50) 2 0
    ∷ refuses expanding (0x50 ∷ replicate 10 0 ++ 1 ∷ []) 2 0
    ∷ refuses expanding (0x46 ∷ 0 ∷ 1 ∷ 1 ∷ replicate 8 0) 2 0
    ∷ refuses normalising (0x4a ∷ replicate 7 0 ++ 1 ∷ replicate 3 0) 2 0
    ∷ refuses normalising (0x4c ∷ 0 ∷ 1 ∷ 0 ∷ replicate 7 0 ++ 1 ∷ []) 2 0
    -- 3: pass number 23 passes, 24 does not, nor one given twice
    ∷ expands (p 23 1 1 0 1 ∷ []) (j 0 1 0 1 ∷ [])
    ∷ bad (p 24 1 1 0 1 ∷ []) 3
    ∷ bad (p 7 1 1 0 1 ∷ p 8 1 1 0 1 ∷ p 7 1 1 0 1 ∷ []) 3
    -- 4: cost 0, period 0, a latency over 48,000; finish 0 passes
    ∷ bad (p 0 0 1 0 1 ∷ []) 4
    ∷ bad (p 0 1 0 0 0 ∷ []) 4
    ∷ expands (p 0 1 1 0 0 ∷ []) (j 0 1 0 0 ∷ [])
    ∷ expands (p 0 1 1 0 1 ∷ p 1 1 1 0 1 ∷ f 0 1 48000 ∷ []) (j 0 1 0 1 ∷ j 1 1 0 1 ∷ l 0 1 48000 ∷ [])
    ∷ bad (p 0 1 1 0 1 ∷ p 1 1 1 0 1 ∷ f 0 1 48001 ∷ []) 4
    -- 5: a flow to itself, from or to a pass that is not there
    ∷ bad (p 0 1 1 0 1 ∷ f 0 0 0 ∷ []) 5
    ∷ bad (p 0 1 1 0 1 ∷ f 0 200 0 ∷ []) 5
    ∷ bad (f 1 0 0 ∷ p 0 1 1 0 1 ∷ []) 5
    -- 6: 64 F records pass, 65 do not
    ∷ expands (flows 64) (j 0 1 0 1 ∷ j 1 1 0 1 ∷ replicate 64 (l 0 1 0))
    ∷ bad (flows 65) 6
    -- a cycle that is no period, and a flow whose target has a phase: instances match by the clock, not by release
    ∷ expands (p 0 1 4 0 4 ∷ p 1 1 6 3 3 ∷ f 0 1 0 ∷ []) (j 0 1 0 4 ∷ j 1 1 4 8 ∷ j 2 1 8 12 ∷ j 3 1 3 6 ∷ j 4 1 9 12 ∷ l 0 3 0 ∷ [])
    -- more room than the records need
    ∷ in_room 19008 (expands (p 0 1 1 0 1 ∷ []) (j 0 1 0 1 ∷ []))
    ∷ in_room 19008 (normalises (j 0 1 0 9 ∷ []) (j 0 1 0 9 ∷ []))
    ∷ in_room 19008 (schedules (j 0 1 0 9 ∷ []) 2 2 (s 0 0 1 ∷ []))
    -- jobs and links out of order, chains of three links and a ring of three
    ∷ normalises (l 3 1 0 ∷ l 1 0 0 ∷ l 0 2 0 ∷ j 3 1 0 100 ∷ j 1 1 0 100 ∷ j 0 1 0 100 ∷ j 2 1 0 100 ∷ [])
    (j 0 1 2 99 ∷ j 1 1 1 98 ∷ j 2 1 3 100 ∷ j 3 1 0 97 ∷ l 0 2 0 ∷ l 1 0 0 ∷ l 1 2 1 ∷ l 3 0 1 ∷ l 3 1 0 ∷ l 3 2 2 ∷ [])
    ∷ refuses normalising (jobs (j 0 1 0 9 ∷ j 1 1 0 9 ∷ j 2 1 0 9 ∷ l 0 1 0 ∷ l 1 2 0 ∷ l 2 0 0 ∷ [])) 7 0
    -- the first of two full sequences, and openings only up to it; a 10 with more than one opening
    ∷ schedules (j 1 1 0 5 ∷ j 0 1 0 9 ∷ []) 3 3 (s 0 0 1 ∷ s 1 1 2 ∷ [])
    ∷ refuses (scheduling 2) (jobs (j 1 1 0 5 ∷ j 0 1 0 9 ∷ [])) 11 2
    ∷ refuses (scheduling 2) (jobs (j 0 1 0 3 ∷ j 1 2 0 4 ∷ j 2 1 2 3 ∷ [])) 10 2
    -- a link that keeps a lower number from going first, and a start that a predecessor's end and the latency decide
    ∷ schedules (j 0 1 0 100 ∷ j 1 5 0 100 ∷ j 2 1 0 100 ∷ l 2 0 3 ∷ []) 4 4 (s 1 0 5 ∷ s 2 5 6 ∷ s 0 9 10 ∷ [])
    -- a deadline of 48,000 passes
    ∷ normalises (j 0 1 0 48000 ∷ []) (j 0 1 0 48000 ∷ [])
    -- a latency of 48,000 is no 4
    ∷ refuses normalising (jobs (j 0 1 0 9 ∷ j 1 1 0 9 ∷ l 0 1 48000 ∷ [])) 8 0
    -- 7 and 8 come before 9
    ∷ refuses_in 0 (scheduling 0) (jobs (j 0 4 0 3 ∷ [])) 8 0
    ∷ refuses_in 0 (scheduling 0) (jobs (j 0 1 0 9 ∷ j 1 1 0 9 ∷ l 0 1 0 ∷ l 1 0 0 ∷ [])) 7 0
    ∷ refuses_in 0 normalising (jobs (j 0 1 0 9 ∷ j 1 1 0 9 ∷ l 0 1 0 ∷ l 1 0 0 ∷ [])) 7 0
    -- 3: a number given twice; 4: cost 0, a deadline or a latency over 48,000; 5: from a job that is not there; 8: deadline 0
    ∷ both (j 5 1 0 9 ∷ l 5 6 0 ∷ j 6 1 0 9 ∷ j 5 1 0 9 ∷ []) 3
    ++ both (j 0 0 0 9 ∷ []) 4
    ++ both (j 0 1 0 48001 ∷ []) 4
    ++ both (j 0 1 0 9 ∷ j 1 1 0 9 ∷ l 0 1 48001 ∷ []) 4
    ++ both (j 0 1 0 9 ∷ l 1 0 0 ∷ []) 5
    ++ both (j 0 1 0 0 ∷ []) 8
