-- Four bad tools break a promise, each at a named case: the promise at that case computes to something they do not do. Assumes nothing.
use Prim.Native.Nat.{ℕ}
use mathlib.Core.Path.{◌≡◌, sym, ◌∙◌, ap}
use mathlib.Core.List.{List, [], ◌∷◌}
use native.Mathlib.Omega.{arith}
use lib.ListN.{get_or, drop, replicate}
use Rattle.cases.specs.Case.{jobs}
use Rattle.cases.specs.Starred.{table_c, table_d, table_f, normal_g, table_i}
use Rattle.cases.proofs.Computes.{computes as cases}
use Rattle.search.proofs.Computes.{computes as search}
use Rattle.argilosco.specs.Promise.{NormalisePromise, SchedulePromise}
use Rattle.argilosco.specs.declared.Written.{Written}
use Rattle.argilosco.specs.declared.Scheduled.{Scheduled}

-- one that refuses everything: case C is done
pub refuses_everything : {answer : Scheduled} {after : List ℕ} → SchedulePromise (jobs (table_c 3)) 2 (replicate 12 0) answer after → answer.number ≡ 0
unfolding cases search
refuses_everything k = k.number

-- one that writes one fixed table: the outputs for H and I differ
pub fixed_table : {a b : Written} {x y : List ℕ}
    → NormalisePromise (jobs normal_g) (replicate 72 0) a x → NormalisePromise (jobs (table_i [])) (replicate 72 0) b y → x ≡ y → ⊥
unfolding cases search
fixed_table h i e =
    let z : ◌≡◌ {A = ℕ} 1 98 = ap (λ out. get_or out 6 0) (sym h.output ∙ e ∙ i.output) in
    omega arith

-- one that hands the input back: I's deadlines are tightened
pub hands_back : {a : Written} {x : List ℕ} → NormalisePromise (jobs (table_i [])) (replicate 72 0) a x → get_or x 6 0 ≡ get_or (jobs (table_i [])) 6 0 → ⊥
unfolding cases search
hands_back i e = let z : ◌≡◌ {A = ℕ} 98 100 = sym (ap (λ out. get_or out 6 0) i.output) ∙ e in omega arith

-- one that writes nothing, or follows only the first branch and then says none: D is done, with 24 bytes, job 1 first
pub first_branch : {answer : Scheduled} {after : List ℕ} → SchedulePromise (jobs table_d) 3 (replicate 24 0) answer after
    → (answer.number ≡ 0) × (answer.written ≡ 24) × (get_or after 1 0 ≡ 1)
unfolding cases search
first_branch k = (k.number, k.written, ap (λ out. get_or out 1 0) k.output)

-- one that invents its openings: F opens 1 at budget 1, and is spent at budget 0
pub invents_openings : {a b : Scheduled} {x y : List ℕ}
    → SchedulePromise (jobs table_f) 1 (replicate 36 0) a x → SchedulePromise (jobs table_f) 0 (replicate 36 0) b y
    → (a.number ≡ 10) × (a.openings ≡ 1) × (b.number ≡ 11)
unfolding cases search
invents_openings one none = (one.number, one.openings, none.number)

-- one that touches more than it writes: what stands behind the records is left, and at a refusal all of it
pub touches_more : {a b : Scheduled} {x y : List ℕ}
    → SchedulePromise (jobs (table_c 3)) 2 (replicate 14 9) a x → SchedulePromise (jobs (table_c 4)) 2 (replicate 14 9) b y
    → (drop 12 x ≡ 9 ∷ 9 ∷ []) × (y ≡ replicate 14 9)
unfolding cases search
touches_more done refused = (ap (drop 12) done.output, refused.output)
