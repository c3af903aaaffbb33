-- A case: a call on a table, and what it must come to.
use Rattle.std.specs.Prelude.{ℕ, Bool, true, false, ◌&&◌, List, [], ◌∷◌, length, eqb}
use Rattle.laws.specs.Lists.{all, keep}
use Rattle.records.specs.Record.{pass_bytes, job_bytes, slot_bytes, pass, flow, job, link, slot}
use Rattle.records.specs.Table.{encode}
use Rattle.records.specs.Outcome.{Outcome, done, refused}
use Rattle.records.specs.declared.Slot.{Slot}
use Rattle.records.specs.declared.PassRecord.{PassRecord}
use Rattle.records.specs.declared.PassRecord.TheVariants.{P, F}
use Rattle.records.specs.declared.JobRecord.{JobRecord}
use Rattle.records.specs.declared.JobRecord.TheVariants.{J, L}

-- the three calls; scheduling is under a budget
pub data Call : Type 0 where
  expanding : Call
  normalising : Call
  scheduling : ℕ → Call

-- a call on a table's bytes, with so much room in the output, comes to this
pub record Case : Type 0 where
  pub call : Call
  pub bytes : List ℕ
  pub room : ℕ
  pub outcome : Outcome

-- a pass, with its cost, period, phase and finish
abbrev pub p : ℕ → ℕ → ℕ → ℕ → ℕ → PassRecord
p n c period phase within = P (pass n c period phase within)

-- a flow with its latency
abbrev pub f : ℕ → ℕ → ℕ → PassRecord
f source target latency = F (flow source target latency)

-- a job with its cost and window
abbrev pub j : ℕ → ℕ → ℕ → ℕ → JobRecord
j n c release deadline = J (job n c release deadline)

-- a link with its latency
abbrev pub l : ℕ → ℕ → ℕ → JobRecord
l from to latency = L (link from to latency)

-- a slot from its start to its end
abbrev pub s : ℕ → ℕ → ℕ → Slot
s n start end = slot n start end

-- the bytes of a pass table
abbrev pub passes : List PassRecord → List ℕ
passes = encode pass_bytes

-- the bytes of a job table
abbrev pub jobs : List JobRecord → List ℕ
jobs = encode job_bytes

-- done: the room is just what the records need
abbrev pub gives : Call → List ℕ → ℕ → List ℕ → Case
gives call bytes opened output = record { call = call; bytes = bytes; room = length output; outcome = done opened output }

-- a pass table is expanded to these records
abbrev pub expands : List PassRecord → List JobRecord → Case
expands table output = gives expanding (passes table) 0 (jobs output)

-- a job table has this normal form
abbrev pub normalises : List JobRecord → List JobRecord → Case
normalises table output = gives normalising (jobs table) 0 (jobs output)

-- a job table gets this schedule under a budget, with so many openings
abbrev pub schedules : List JobRecord → ℕ → ℕ → List Slot → Case
schedules table budget opened output = gives (scheduling budget) (jobs table) opened (encode slot_bytes output)

-- the same case with another room
abbrev pub in_room : ℕ → Case → Case
in_room room c = record { call = c.call; bytes = c.bytes; room = room; outcome = c.outcome }

-- refused with a number and openings, in so much room
abbrev pub refuses_in : ℕ → Call → List ℕ → ℕ → ℕ → Case
refuses_in room call bytes number opened = record { call = call; bytes = bytes; room = room; outcome = refused number opened }

-- refused with ample room: the largest output is 48 + 1,536 records
abbrev pub refuses : Call → List ℕ → ℕ → ℕ → Case
refuses = refuses_in 19008

-- two lists of bytes are the same
unfoldable pub same_bytes : List ℕ → List ℕ → Bool
same_bytes [] [] = true
same_bytes [] (y ∷ ys) = false
same_bytes (x ∷ xs) [] = false
same_bytes (x ∷ xs) (y ∷ ys) = eqb x y && same_bytes xs ys

-- two outcomes are the same
unfoldable pub same_outcome : Outcome → Outcome → Bool
same_outcome a b = eqb a.number b.number && eqb a.openings b.openings && same_bytes a.bytes b.bytes

-- a case passes, where this is what each call comes to
unfoldable pub passes_by : (Call → List ℕ → ℕ → Outcome) → Case → Bool
passes_by comes_to c = same_outcome (comes_to c.call c.bytes c.room) c.outcome

-- every case of a table passes
unfoldable pub all_pass : (Call → List ℕ → ℕ → Outcome) → List Case → Bool
all_pass comes_to = all (passes_by comes_to)

-- the call is expanding
abbrev pub is_expanding : Call → Bool
is_expanding expanding = true
is_expanding normalising = false
is_expanding (scheduling budget) = false

-- the call is normalising
abbrev pub is_normalising : Call → Bool
is_normalising expanding = false
is_normalising normalising = true
is_normalising (scheduling budget) = false

-- the call is scheduling
abbrev pub is_scheduling : Call → Bool
is_scheduling expanding = false
is_scheduling normalising = false
is_scheduling (scheduling budget) = true

-- scheduling's budget
abbrev pub budget_of : Call → ℕ
budget_of expanding = 0
budget_of normalising = 0
budget_of (scheduling budget) = budget

-- the cases of a table that a layer can judge by itself
unfoldable pub of_calls : (Call → Bool) → List Case → List Case
of_calls these = keep (λ c. these c.call)
