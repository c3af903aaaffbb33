-- No second result meets a promise: each part of it is an equation with what the inputs give, so two results that meet it are equal part by part.
-- Assumes nothing.
use Prim.Native.Nat.{ℕ}
use mathlib.Core.Path.{◌≡◌, ◌∙◌, sym}
use mathlib.Core.List.{List}
use Rattle.records.specs.Outcome.{Outcome}
use Rattle.argilosco.specs.Promise.{Keeps, KeepsOpenings, ExpandPromise, NormalisePromise, SchedulePromise}
use Rattle.argilosco.specs.declared.Written.{Written}
use Rattle.argilosco.specs.declared.Scheduled.{Scheduled}

-- two values that equal a third are equal
both : {A : Type 0} {x y z : A} → x ≡ z → y ≡ z → x ≡ y
both p q = p ∙ sym q

-- two answers that keep one outcome are equal, and so are the outputs they leave
pub keeps_once : {outcome : Outcome} {before : List ℕ} {a b : Written} {after other : List ℕ}
    → Keeps outcome before a after → Keeps outcome before b other → (a ≡ b) × (after ≡ other)
keeps_once k m =
    (λ i. record { number = both k.number m.number i; written = both k.written m.written i }, both k.output m.output)

-- the same of answers with openings
pub keeps_openings_once : {outcome : Outcome} {before : List ℕ} {a b : Scheduled} {after other : List ℕ}
    → KeepsOpenings outcome before a after → KeepsOpenings outcome before b other → (a ≡ b) × (after ≡ other)
keeps_openings_once k m = (
  λ i. record {
    number = both k.number m.number i;
    written = both k.written m.written i;
    openings = both k.openings m.openings i;
  },
  both k.output m.output,
)

-- no second result meets the promise of expanding
pub expand_once : (passes before : List ℕ) {a b : Written} {after other : List ℕ}
    → ExpandPromise passes before a after → ExpandPromise passes before b other → (a ≡ b) × (after ≡ other)
expand_once passes before = keeps_once

-- no second result meets the promise of normalising
pub normalise_once : (jobs before : List ℕ) {a b : Written} {after other : List ℕ}
    → NormalisePromise jobs before a after → NormalisePromise jobs before b other → (a ≡ b) × (after ≡ other)
normalise_once jobs before = keeps_once

-- no second result meets the promise of scheduling
pub schedule_once : (jobs : List ℕ) (budget : ℕ) (before : List ℕ) {a b : Scheduled} {after other : List ℕ}
    → SchedulePromise jobs budget before a after → SchedulePromise jobs budget before b other → (a ≡ b) × (after ≡ other)
schedule_once jobs budget before = keeps_openings_once
