-- "A refused call writes nothing to the output it was lent". A refused outcome holds no bytes, and openings at 10 and 11 alone, by the shape of the three definitions;
-- so an answer that keeps the promise with a number from 1 on has no bytes written, and leaves the output as it found it. Assumes nothing.
use Prim.Native.Nat.{ℕ, zero, suc, ◌<◌}
use native.Mathlib.Omega.{arith}
use mathlib.Core.Bool.{Bool, true, false}
use mathlib.Core.Path.{◌≡◌, refl, ap, ◌∙◌}
use Rattle.std.specs.Prelude.{Option, None, Some}
use mathlib.Core.List.{List, []}
use lib.Dec.{ltb}
use lib.ListN.{length}
use Rattle.records.specs.Outcome.{Outcome, done, refused, unless_refused, overwrite}
use Rattle.records.specs.declared.JobRecord.{JobRecord}
use Rattle.passes.specs.Call.{expanded_bytes, expand_number, expand}
use Rattle.normal.specs.Call.{normal_bytes, normalise_number, normalise}
use Rattle.normal.specs.Normal.{normal_form}
use Rattle.jobs.specs.Call.{job_table}
use Rattle.search.specs.Tree.{schedule, openings}
use Rattle.search.specs.Call.{schedule_number, decided, searched, scheduled}
use Rattle.argilosco.specs.Promise.{ExpandPromise, NormalisePromise, SchedulePromise}
use Rattle.argilosco.specs.declared.Written.{Written}
use Rattle.argilosco.specs.declared.Scheduled.{Scheduled}

-- "Refused: bytes written 0", and "openings 0 save at 10 and 11"
pub record Withheld (outcome : Outcome) : Type 0 where
  pub bytes : 0 < outcome.number → outcome.bytes ≡ []
  pub openings : 0 < outcome.number → outcome.number < 10 → outcome.openings ≡ 0

-- an outcome that is done withholds nothing
done_withheld : (opened : ℕ) (bytes : List ℕ) → Withheld (done opened bytes)
done_withheld opened bytes = record { bytes = λ h. absurd (omega arith); openings = λ h. absurd (omega arith) }

-- what comes after the refusals keeps this
unless_withheld : (n : ℕ) (later : Outcome) → Withheld later → Withheld (unless_refused n later)
unless_withheld zero later w = w
unless_withheld (suc n) later w = record { bytes = λ h. refl; openings = λ h k. refl }

-- and so does the search
searched_withheld : (table : List JobRecord) (budget : ℕ) → Withheld (searched table budget)
unfolding searched decided
searched_withheld table budget = step (ltb budget (openings table)) (schedule table)
  where
    step : (t : Bool) (o : Option (List ℕ)) → Withheld (elim t [ true ↦ refused 11 budget | false ↦ decided table o (openings table) ])
    step true o = record { bytes = λ h. refl; openings = λ h k. absurd (omega arith) }
    step false None = record { bytes = λ h. refl; openings = λ h k. absurd (omega arith) }
    step false (Some q) = done_withheld _ _

-- what expanding withholds when it is refused
pub expand_withheld : (bytes : List ℕ) (room : ℕ) → Withheld (expand bytes room)
unfolding expand
expand_withheld bytes room = unless_withheld (expand_number bytes room) _ (done_withheld 0 (expanded_bytes bytes))

-- what normalising withholds
pub normalise_withheld : (bytes : List ℕ) (room : ℕ) → Withheld (normalise bytes room)
unfolding normalise
normalise_withheld bytes room = unless_withheld (normalise_number bytes room) _ (done_withheld 0 (normal_bytes bytes))

-- what scheduling withholds
pub scheduled_withheld : (bytes : List ℕ) (budget room : ℕ) → Withheld (scheduled bytes budget room)
unfolding scheduled
scheduled_withheld bytes budget room = unless_withheld (schedule_number bytes room) _ (searched_withheld (normal_form (job_table bytes)) budget)

-- without bytes nothing is written, and the output is as it was
unchanged : {outcome : Outcome} {number written : ℕ} {before after : List ℕ}
    → Withheld outcome → number ≡ outcome.number → written ≡ length outcome.bytes → after ≡ overwrite outcome.bytes before → 0 < number → (written ≡ 0) × (after ≡ before)
unchanged {before = before} w same wrote left h =
    let none = w.bytes (omega arith) in
    (wrote ∙ ap length none, left ∙ ap (λ bytes. overwrite bytes before) none)

-- a refused expanding writes nothing
pub expand_refused : (passes before : List ℕ) {answer : Written} {after : List ℕ}
    → ExpandPromise passes before answer after → 0 < answer.number → (answer.written ≡ 0) × (after ≡ before)
expand_refused passes before k = unchanged (expand_withheld passes (length before)) k.number k.written k.output

-- a refused normalising writes nothing
pub normalise_refused : (jobs before : List ℕ) {answer : Written} {after : List ℕ}
    → NormalisePromise jobs before answer after → 0 < answer.number → (answer.written ≡ 0) × (after ≡ before)
normalise_refused jobs before k = unchanged (normalise_withheld jobs (length before)) k.number k.written k.output

-- a refused scheduling writes nothing, and has openings at 10 and 11 alone
pub schedule_refused : (jobs : List ℕ) (budget : ℕ) (before : List ℕ) {answer : Scheduled} {after : List ℕ}
    → SchedulePromise jobs budget before answer after → 0 < answer.number → ((answer.written ≡ 0) × (after ≡ before)) × (answer.number < 10 → answer.openings ≡ 0)
schedule_refused jobs budget before k h =
    let w = scheduled_withheld jobs budget (length before) in
    (unchanged w k.number k.written k.output h, λ low. k.openings ∙ w.openings (omega (arith, k.number)) (omega (arith, k.number)))
