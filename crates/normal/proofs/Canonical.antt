-- On records: two tables that normalising does not refuse have one normal form exactly when they have the same job numbers with the same costs and permit the same start times.
-- Each one's earliest starts are permitted by the other, so earliest starts agree, and likewise latest. Where one table writes a pair, the other permits no start of the second job
-- at its earliest with the first at its latest; so it has a chain there too, and a gap at least as large. The other way round, the normal form permits what its table permits.
use Prim.Native.Nat.{ℕ, zero, suc, ◌+◌, ◌-◌, ◌<◌, ◌≤◌}
use native.Mathlib.Omega.{arith}
use mathlib.Core.Path.{◌≡◌, refl, sym, ap, ap₂, ◌∙◌}
use mathlib.Core.Bool.{Bool, true, false, cond}
use mathlib.Core.Logic.Iff
use mathlib.Core.Logic.{◌↔◌, ◌⊎◌, inl, inr}
use mathlib.Core.List.{List, [], map, Memᴰ}
use borrow.Author.Tests.{ltb-true, ltb-false}
use lib.Dec.{eqb, ltb}
use Rattle.laws.specs.Lists.{only, flat}
use Rattle.laws.proofs.Members.{not_true_false, map_same, flat_same}
use Rattle.records.specs.Record.{link}
use Rattle.records.specs.declared.JobRecord.{JobRecord}
use Rattle.jobs.specs.Jobs.{numbers, cost}
use Rattle.jobs.specs.Starts.{SameJobs, SameStarts}
use Rattle.jobs.proofs.Sound.{numbers_same, cost_by_number}
use Rattle.jobs.proofs.JobsFirst.{jobs_first}
use Rattle.normal.specs.Windows.{after}
use Rattle.normal.specs.Normal.{normal_form}
use Rattle.normal.proofs.WindowsEarliest.{Normalisable, gaps_right, gap, earliest, latest, chain_grows, gap_chain, earliest_bounds, earliest_permitted}
use Rattle.normal.proofs.WindowsLatest.{pushed, delayed, delayed_permitted, delayed_self, latest_bounds}
use Rattle.normal.proofs.NormalRecords.{link_if, form_job, form_link, normal_records_lem}
use Rattle.normal.proofs.NormalPermits.{normal_permits, normal_jobs, normal_normalisable}

-- what is pushed on beyond the latest start is pushed on by a gap
pushed_over : (table : List JobRecord) (i j g : ℕ) → 0 < g → latest table i + g ≤ pushed table i j → g ≤ gap table i j
pushed_over table i j g positive h = go (eqb i j) (gap table i j) h
  where
    go : (t : Bool) (c : ℕ) → latest table i + g ≤ cond t (latest table i) (after (latest table i) c) → g ≤ c
    go true c h = absurd (omega arith)
    go false zero h = absurd (omega arith)
    go false (suc c) h = omega arith

-- a gap is written or it is not
written_or_not : (l e g : ℕ) → ((0 < g) × (e < g + l)) ⊎ (0 < g → e < g + l → ⊥)
written_or_not l e g = go (ltb 0 g) refl (ltb e (g + l)) refl
  where
    go : (s : Bool) → ltb 0 g ≡ s → (t : Bool) → ltb e (g + l) ≡ t → ((0 < g) × (e < g + l)) ⊎ (0 < g → e < g + l → ⊥)
    go false p t q = inr (λ h k. omega (arith, ltb-false 0 g p))
    go true p false q = inr (λ h k. omega (arith, ltb-false e (g + l) q))
    go true p true q = inl (ltb-true 0 g p, ltb-true e (g + l) q)

-- a gap that is not written gives no link
link_if_none : (c l e i j g : ℕ) → (0 < g → e < g + l → ⊥) → link_if c l e i j g ≡ []
link_if_none c l e i j zero h = refl
link_if_none c l e i j (suc g) h = ap (λ t. only t (link i j (suc g - c))) (not_true_false (ltb e (suc g + l)) (λ t. h (omega arith) (ltb-true e (suc g + l) t)))

-- two gaps give the same link, if either, where it is written, is at most the other
link_if_same : (c l e i j a b : ℕ) → (0 < a → e < a + l → a ≤ b) → (0 < b → e < b + l → b ≤ a) → link_if c l e i j a ≡ link_if c l e i j b
link_if_same c l e i j a b f g = go (written_or_not l e a)
  where
    go : ((0 < a) × (e < a + l)) ⊎ (0 < a → e < a + l → ⊥) → link_if c l e i j a ≡ link_if c l e i j b
    go (inl w) = let up = f w.0 w.1 in let down = g (omega arith) (omega arith) in let same : a ≡ b = omega arith in ap (link_if c l e i j) same
    go (inr n) = link_if_none c l e i j a n ∙ sym (link_if_none c l e i j b (λ h k. let down = g h k in n (omega arith) (omega arith)))

-- of two tables that permit the same starts, the first
module _ {t u : List JobRecord} (first : Normalisable t) (second : Normalisable u) (starts : SameStarts t u) where
  -- has no later earliest starts
  earliest_no_later : (n : ℕ) → Memᴰ n (numbers t) → earliest t n ≤ earliest u n
  earliest_no_later n m = earliest_bounds first.sound (gaps_right first) (earliest u) ((starts (earliest u)).1 (earliest_permitted second)) n m

  -- has no earlier latest starts
  latest_no_earlier : (n : ℕ) → Memᴰ n (numbers t) → Memᴰ n (numbers u) → latest u n ≤ latest t n
  latest_no_earlier n m k = omega (arith, latest_bounds first (delayed u n) ((starts (delayed u n)).1 (delayed_permitted second n k)) n m, delayed_self second n k)

  -- and writes no larger gaps
  gap_no_larger : (i j : ℕ) → Memᴰ i (numbers u) → 0 < gap t i j → earliest u j < gap t i j + latest u i → gap t i j ≤ gap u i j
  gap_no_larger i j m chained over =
      let grows = chain_grows first.sound (delayed u i) ((starts (delayed u i)).1 (delayed_permitted second i m)) (gap_chain (gaps_right first) i j chained) in
      pushed_over u i j (gap t i j) chained (omega (arith, delayed_self second i m))

-- tables with the same job numbers and costs that permit the same starts
module _ {t u : List JobRecord} (first : Normalisable t) (second : Normalisable u) (jobs : SameJobs t u) (starts : SameStarts t u) where
  -- the starts are the same the other way round
  back : SameStarts u t
  back start = Iff.symm (starts start)

  -- a job number of one is one of the other, with the same cost
  number_cost : (n : ℕ) → Memᴰ n (numbers t) → Memᴰ n (numbers u) × (cost u n ≡ cost t n)
  number_cost n m = (cost_by_number u second.sound n (cost t n)).0 ((jobs n (cost t n)).0 ((cost_by_number t first.sound n (cost t n)).1 (m, refl)))

  -- so the job numbers are the same
  same_numbers : numbers t ≡ numbers u
  same_numbers = numbers_same t u (λ n. (λ m. (number_cost n m).0, λ m. ((cost_by_number t first.sound n (cost u n)).0 ((jobs n (cost u n)).1 ((cost_by_number u second.sound n (cost u n)).1 (m, refl)))).0))

  -- the windows are the same
  same_earliest : (n : ℕ) → Memᴰ n (numbers t) → earliest t n ≡ earliest u n
  same_earliest n m = omega (arith, earliest_no_later first second starts n m, earliest_no_later second first back n (number_cost n m).0)

  same_latest : (n : ℕ) → Memᴰ n (numbers t) → latest t n ≡ latest u n
  same_latest n m = let k = (number_cost n m).0 in omega (arith, latest_no_earlier first second starts n m k, latest_no_earlier second first back n k m)

  -- so the jobs of the normal form are the same
  same_job : (n : ℕ) → Memᴰ n (numbers t) → form_job t n ≡ form_job u n
  same_job n m = rw (same_earliest n m, same_latest n m, ← (number_cost n m).1)

  -- and so is the link of each pair
  same_link : (i j : ℕ) → Memᴰ i (numbers t) → Memᴰ j (numbers t) → form_link t i j ≡ form_link u i j
  same_link i j m n =
      rw (same_earliest j n, same_latest i m, ← (number_cost i m).1)
      (link_if_same (cost u i) (latest u i) (earliest u j) i j (gap t i j) (gap u i j) (gap_no_larger first second starts i j (number_cost i m).0)
      (λ h over. gap_no_larger second first back i j m h (rw (same_earliest j n, same_latest i m) over)))

  -- so the normal form is the same
  same_form : normal_form t ≡ normal_form u
  same_form =
      normal_records_lem t
      ∙ ap₂ jobs_first
      (map_same (form_job t) (form_job u) (numbers t) same_job ∙ ap (map (form_job u)) same_numbers)
      (flat_same _ _ (numbers t) (λ i m. flat_same (form_link t i) (form_link u i) (numbers t) (λ j n. same_link i j m n) ∙ ap (flat (form_link u i)) same_numbers) ∙ ap (flat (λ i. flat (form_link u i) (numbers u))) same_numbers)
      ∙ sym (normal_records_lem u)

-- two tables have one normal form exactly when they have the same job numbers with the same costs and permit the same starts
pub canonical : {t u : List JobRecord} → Normalisable t → Normalisable u → (normal_form t ≡ normal_form u) ↔ (SameJobs t u × SameStarts t u)
canonical {t} {u} first second = (
  λ e.
      let jobs : SameJobs t (normal_form u) = rw e at (normal_jobs first) in
      let starts : SameStarts t (normal_form u) = rw e at (normal_permits first) in
      (λ n c. Iff.trans (jobs n c) (Iff.symm (normal_jobs second n c)), λ start. Iff.trans (starts start) (Iff.symm (normal_permits second start))),
  λ h. same_form first second h.0 h.1,
)

-- the normal form of a normal form is itself
pub idempotent : {table : List JobRecord} → Normalisable table → normal_form (normal_form table) ≡ normal_form table
idempotent normalisable =
    (canonical (normal_normalisable normalisable) normalisable).1
    (λ n c. Iff.symm (normal_jobs normalisable n c), λ start. Iff.symm (normal_permits normalisable start))
