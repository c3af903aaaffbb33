-- The search on the state that the code hands on: what the code's contracts cite. A state says which jobs have run, in what order, when each ended, and when the core is free.
-- The jobs are lists by number, as the code holds them; a number that no job has is marked as placed, so that "remaining" is "not placed".
use Rattle.std.specs.Prelude.{ℕ, zero, suc, ◌+◌, ◌-◌, ◌<◌, ◌≤◌, max, ◌≡◌, Bool, true, false, cond, not, ◌&&◌, ◌||◌, Option, Some, None, List, [], ◌∷◌, ◌++◌, map, get_or, set, replicate, leb, ltb, eqb}
use Rattle.laws.specs.Lists.{all, keep, count, largest, total}
use Rattle.records.specs.Record.{slot, slot_bytes}
use Rattle.records.specs.Table.{encode}
use Rattle.records.specs.Outcome.{Outcome, done, refused, overwrite}
use Rattle.records.specs.declared.Slot.{Slot}
use Rattle.records.specs.declared.JobRecord.{JobRecord}
use Rattle.jobs.specs.Jobs.{strongest}
use Rattle.jobs.specs.declared.Jobs.{Jobs}
use Rattle.normal.specs.Chosen.{present_in}
use Rattle.search.specs.declared.State.{State}
use Rattle.search.specs.declared.Found.{Found}
use Rattle.search.specs.declared.Found.TheVariants.{Schedule, Nothing, Spent}
use Rattle.search.specs.declared.problem.Problem.{Problem}

-- what stands at a job's number
abbrev pub at : List ℕ → ℕ → ℕ
at xs k = get_or xs k 0

-- a job has run
abbrev pub is_placed : List Bool → ℕ → Bool
is_placed placed k = get_or placed k false

-- the jobs below `limit` that a job is linked from: its row holds one more than the latency of the link from each, and 0 where there is none
unfoldable pub linked : List ℕ → ℕ → List ℕ
linked row limit = keep (λ i. ltb 0 (at row i)) (count 0 limit)

-- when the links allow a job to start that could start at `first` but for them: not yet, if a job that it is linked from has not run
unfoldable pub start_at : List ℕ → List Bool → List ℕ → ℕ → List ℕ → Option ℕ
start_at row placed ends first from =
    cond (all (is_placed placed) from) (Some (max first (largest (map (λ i. at ends i + (at row i - 1)) from)))) None

-- a job remains after job k: it has not run, and is not k
unfoldable pub remains_after : List Bool → ℕ → ℕ → Bool
remains_after placed k m = not (eqb m k) && not (is_placed placed m)

-- the jobs below `limit` that remain after job k
unfoldable pub left : List Bool → ℕ → ℕ → List ℕ
left placed k limit = keep (remains_after placed k) (count 0 limit)

-- "every job not in it has max(t, release) + cost at most its deadline"
unfoldable pub fits_after : List ℕ → List ℕ → List ℕ → ℕ → ℕ → Bool
fits_after cost release deadline t m = leb (max t (at release m) + at cost m) (at deadline m)

-- "if any remain, t plus all remaining costs is at most the largest remaining deadline"; costs are above 0, so that their sum is 0 where none remain
unfoldable pub together_after : ℕ → ℕ → ℕ → Bool
together_after t costs last = eqb costs 0 || leb (t + costs) last

-- the jobs that remain after job k fit after t
unfoldable pub rest_fits : List ℕ → List ℕ → List ℕ → ℕ → List Bool → ℕ → ℕ → Bool
rest_fits cost release deadline limit placed k t =
    all (fits_after cost release deadline t) (left placed k limit)
    && together_after t (total (map (at cost) (left placed k limit))) (largest (map (at deadline) (left placed k limit)))

-- when job k ends that starts at `start`, if it ends by its deadline and the jobs that remain fit after it
unfoldable pub ends_at : List ℕ → List ℕ → List ℕ → ℕ → List Bool → ℕ → Option ℕ → Option ℕ
ends_at cost release deadline limit placed k None = None
ends_at cost release deadline limit placed k (Some t) =
    cond (leb (t + at cost k) (at deadline k) && rest_fits cost release deadline limit placed k (t + at cost k)) (Some (t + at cost k)) None

-- when job k ends that runs next, if it has not run, its links allow it and the sequence with it is live; `row` has the links into it
unfoldable pub opens_at : List ℕ → List ℕ → List ℕ → List ℕ → ℕ → List Bool → List ℕ → ℕ → ℕ → Option ℕ
opens_at cost release deadline row limit placed ends free k =
    cond (is_placed placed k) None (ends_at cost release deadline limit placed k (start_at row placed ends (max free (at release k)) (linked row limit)))

-- the jobs as the code holds them: by number what each costs, its window and the links into it; one more than the largest number; and how many there are
pub record Given : Type 0 where
  pub cost : List ℕ
  pub release : List ℕ
  pub deadline : List ℕ
  pub into : List (List ℕ)
  pub limit : ℕ
  pub count : ℕ

-- those jobs from their parts
abbrev pub given : List ℕ → List ℕ → List ℕ → List (List ℕ) → ℕ → ℕ → Given
given c r d i limit n = record { cost = c; release = r; deadline = d; into = i; limit = limit; count = n }

-- those jobs as the code is handed them
abbrev pub given_of : Problem → Given
given_of p = given p.jobs.now.cost p.jobs.now.release p.jobs.now.deadline p.into.now p.limit p.count

-- when job k may start after a state that could start at `first` but for its links
abbrev pub start_next : Given → State → ℕ → ℕ → Option ℕ
start_next g s k first = start_at (get_or g.into k []) s.placed s.ends first (linked (get_or g.into k []) g.limit)

-- a job's number, or 48, which no job has, where there is no job
abbrev pub number_or_none : Option ℕ → ℕ
number_or_none (Some k) = k
number_or_none None = 48

-- the jobs that remain after job k, where those marked have run, fit after t
abbrev pub rest_after : Given → List Bool → ℕ → ℕ → Bool
rest_after g placed k t = rest_fits g.cost g.release g.deadline g.limit placed k t

-- when job k ends that runs next after a state
abbrev pub next_at : Given → State → ℕ → Option ℕ
next_at g s k = opens_at g.cost g.release g.deadline (get_or g.into k []) g.limit s.placed s.ends s.free k

-- the state with job k run next, at the place `depth`, until `end`
unfoldable pub place_at : State → ℕ → ℕ → ℕ → State
place_at s k end depth = record { placed = set s.placed k true; order = set s.order depth k; ends = set s.ends k end; free = end }

-- the slot of the job at a place of the order
abbrev pub slot_at : List ℕ → List ℕ → List ℕ → ℕ → Slot
slot_at cost order ends i = slot (at order i) (at ends (at order i) - at cost (at order i)) (at ends (at order i))

-- "S records in running order": the bytes of the first n jobs' slots
unfoldable pub slots_in : List ℕ → List ℕ → List ℕ → ℕ → List ℕ
slots_in cost order ends n = encode slot_bytes (map (slot_at cost order ends) (count 0 n))

-- the first n jobs of the order have run, each for its cost
abbrev pub HaveRun : List ℕ → List ℕ → List ℕ → ℕ → Type 0
HaveRun cost order ends n = (i : ℕ) → i < n → (at order i < 48) × (at cost (at order i) ≤ at ends (at order i))

-- one more than the largest job number
unfoldable pub limit_of : Jobs → ℕ
limit_of jobs = largest (map (λ n. n + 1) (present_in jobs))

-- the state before any job has run
unfoldable pub begun : List Bool → State
begun present = record { placed = map not present; order = replicate 48 0; ends = replicate 48 0; free = 0 }

-- the links into each job, by its number: one more than the latency of the strongest link from each job, 0 where there is none
unfoldable pub links_into : List JobRecord → List (List ℕ)
links_into table = map (λ k. map (λ i. strongest table i k) (count 0 48)) (count 0 48)

-- a state of the tree, and how many jobs it has run
pub record Node : Type 0 where
  pub state : State
  pub depth : ℕ

-- a node from its parts
abbrev pub node : State → ℕ → Node
node s d = record { state = s; depth = d }

-- trying each of some jobs next: the states that go on from s with one of them, as `below` gives them
unfoldable pub try_each_at : Given → (State → List Node) → State → ℕ → List ℕ → List Node
try_each_at g below s d [] = []
try_each_at g below s d (k ∷ ks) =
    elim (next_at g s k) [
      | Some e ↦ below (place_at s k e d) ++ try_each_at g below s d ks
      | None ↦ try_each_at g below s d ks
    ]

-- a state that has run d jobs and all that go on from it by at most n jobs, each before those that go on from it
unfoldable pub states_from : Given → ℕ → State → ℕ → List Node
states_from g zero s d = node s d ∷ []
states_from g (suc n) s d = node s d ∷ try_each_at g (λ t. states_from g n t (d + 1)) s d (count 0 g.limit)

-- what opening a state looks through
unfoldable pub opened : Given → State → ℕ → List Node
opened g s d = states_from g (g.count - d) s d

-- what trying the jobs from k on after a state looks through
unfoldable pub tried : Given → State → ℕ → ℕ → List Node
tried g s d k = try_each_at g (λ t. opened g t (d + 1)) s d (count k (g.limit - k))

-- what a search under a budget comes to that looks through some states, n being opened before: the first full one ends it, and so does the budget
unfoldable pub walk : Given → ℕ → List Node → ℕ → Outcome
walk g budget [] n = refused 10 n
walk g budget (x ∷ xs) n =
    elim (eqb n budget) [
      | true ↦ refused 11 budget
      | false ↦ elim (eqb x.depth g.count) [
        | true ↦ done (n + 1) (slots_in g.cost x.state.order x.state.ends g.count)
        | false ↦ walk g budget xs (n + 1)
      ]
    ]

-- what opening a state comes to, n being opened before it
abbrev pub opening : Given → ℕ → State → ℕ → ℕ → Outcome
opening g budget s d n = walk g budget (opened g s d) n

-- what trying its next job comes to, from job k on
abbrev pub trying : Given → ℕ → State → ℕ → ℕ → ℕ → Outcome
trying g budget s d k n = walk g budget (tried g s d k) n

-- the number of what was found: 0 for the schedule, 10 where there is none, 11 where the budget is spent
abbrev pub number_of : Found → ℕ
number_of (Schedule n) = 0
number_of (Nothing n) = 10
number_of (Spent n) = 11

-- how many sequences were opened
abbrev pub openings_of : Found → ℕ
openings_of (Schedule n) = n
openings_of (Nothing n) = n
openings_of (Spent n) = n

-- the code's answer, and the output before and after the call, are those of an outcome
pub record Answers (o : Outcome) (r : Found) (before after : List ℕ) : Type 0 where
  pub number : number_of r ≡ o.number
  pub openings : openings_of r ≡ o.openings
  pub output : after ≡ overwrite o.bytes before
