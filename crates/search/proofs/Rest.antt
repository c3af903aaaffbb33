-- The jobs not in a sequence, by number. Each job that follows takes itself away from them and nothing else, so that a sequence and its rest together are as many as the table's jobs:
-- a sequence is no longer than that, and as long only when it holds all jobs.
use Prim.Native.Nat.{ℕ, suc, ◌+◌}
use native.Mathlib.Omega.{arith}
use mathlib.Core.Bool.{true, false, not}
use mathlib.Core.Path.{◌≡◌, refl, ap, sym, ◌∙◌}
use mathlib.Core.Logic.{◌↔◌, ◌⊎◌, inl, inr}
use mathlib.Core.List.Memᴰ
use mathlib.Core.List.{List, [], ◌∷◌, map, map-map, Memᴰ}
use lib.ListN.{length}
use borrow.Author.Tests.{eqb-true, eq-eqb, ne_eqb}
use Rattle.laws.specs.Lists.{keep, total, Every}
use Rattle.laws.proofs.Members.{either, true_not_false, keep_member, member_every}
use Rattle.laws.proofs.Parts.{keep_map, keep_all, total_ones, total_without, length_none}
use Rattle.records.specs.declared.Job.{Job}
use Rattle.records.specs.declared.JobRecord.{JobRecord}
use Rattle.jobs.specs.Judge.{Sound}
use Rattle.jobs.specs.Jobs.{numbers, job_at, jobs_in_order, cost}
use Rattle.jobs.proofs.Sound.{numbers_rising, job_known}
use Rattle.search.specs.Run.{has}
use Rattle.search.specs.Live.{remaining}
use Rattle.search.specs.Tree.{full}
use Rattle.search.specs.Order.{MayFollow, Sequence, Full}
use Rattle.search.proofs.Meanings.{has_member, has_not}

-- the numbers of the jobs not in the sequence
abbrev pub rest : List JobRecord → List ℕ → List ℕ
rest table q = keep (λ n. not (has q n)) (numbers table)

-- the jobs not in the sequence are those with these numbers
pub remaining_rest : (table : List JobRecord) (q : List ℕ) → remaining table q ≡ map (job_at table) (rest table q)
unfolding remaining jobs_in_order job_at
remaining_rest table q = keep_map (λ j. not (has q j.number)) (job_at table) (numbers table)

-- a number of the rest is that of a job of the table that is not in the sequence
pub rest_member : (table : List JobRecord) (q : List ℕ) (n : ℕ) → Memᴰ n (rest table q) ↔ (Memᴰ n (numbers table) × (Memᴰ n q → ⊥))
rest_member table q n = (
  λ m. let r = (keep_member (λ n. not (has q n)) (numbers table) n).0 m in (r.0, (has_not q n).0 r.1),
  λ h. (keep_member (λ n. not (has q n)) (numbers table) n).1 (h.0, (has_not q n).1 h.1),
)

-- a job with one of these numbers is not in the sequence
pub rest_remaining : (table : List JobRecord) (q : List ℕ) (n : ℕ) → Memᴰ n (rest table q) → Memᴰ (job_at table n) (remaining table q)
rest_remaining table q n m = rw (remaining_rest table q) (Memᴰ.map (job_at table) m)

-- what holds of each job with one of these numbers holds of every job not in the sequence
pub remaining_every : (table : List JobRecord) (q : List ℕ) (P : Job → Type 0) → ((n : ℕ) → Memᴰ n (rest table q) → P (job_at table n)) → Every P (remaining table q)
remaining_every table q P h =
    rw (remaining_rest table q)
    (member_every P (map (job_at table) (rest table q)) (λ j m. let r = Memᴰ.of_map (job_at table) (rest table q) m in rw (← r.2) (h r.0 r.1)))

-- the costs of the jobs not in the sequence, by number
pub remaining_costs : (table : List JobRecord) (q : List ℕ) → total (map (λ j. j.cost) (remaining table q)) ≡ total (map (cost table) (rest table q))
unfolding job_at
remaining_costs table q = ap (λ (l : List Job). total (map (λ j. j.cost) l)) (remaining_rest table q) ∙ ap total (map-map (λ j. j.cost) (job_at table) (rest table q))

-- a sequence holds all jobs exactly when no number is left
pub full_rest : (table : List JobRecord) (q : List ℕ) → Full table q ↔ (rest table q ≡ [])
full_rest table q = (
  λ e. none (rest table q) (sym (remaining_rest table q) ∙ e),
  λ e. remaining_rest table q ∙ ap (map (job_at table)) e,
)
  where
    none : (ns : List ℕ) → map (job_at table) ns ≡ [] → ns ≡ []
    none [] e = refl
    none (n ∷ ns) e = absurd (grind arith)

-- a sequence that holds all jobs holds each of the table's
pub full_holds : (table : List JobRecord) (q : List ℕ) → Full table q → (n : ℕ) → Memᴰ n (numbers table) → Memᴰ n q
full_holds table q f n m = step (either (has q n))
  where
    step : (has q n ≡ true) ⊎ (has q n ≡ false) → Memᴰ n q
    step (inl h) = (has_member q n).0 h
    step (inr h) =
        let left = (rest_member table q n).1 (m, λ p. true_not_false ((has_member q n).1 p) h) in
        absurd (Memᴰ.not-nil (rw ((full_rest table q).0 f) at left))

module _ (table : List JobRecord) (q : List ℕ) (k : ℕ) (left : Memᴰ k (rest table q)) where
  -- a sum over the rest falls by the share of the job that follows
  pub rest_total : (f : ℕ → ℕ) → total (map f (rest table q)) ≡ f k + total (map f (rest table (k ∷ q)))
  unfolding has
  rest_total f =
      total_without f (λ n. not (has q n)) (λ n. not (has (k ∷ q) n)) k ((has_not q k).1 out.1) (rw (eq-eqb k k refl)) (λ n other. rw (ne_eqb n k other)) (numbers table)
      (numbers_rising table) out.0
    where
      out : Memᴰ k (numbers table) × (Memᴰ k q → ⊥)
      out = (rest_member table q k).0 left

  -- the rest is one shorter
  pub rest_length : length (rest table q) ≡ suc (length (rest table (k ∷ q)))
  rest_length = omega (arith, rest_total (λ n. 1), total_ones (rest table q), total_ones (rest table (k ∷ q)))

module _ (table : List JobRecord) (sound : Sound table) where
  -- a job that may follow is one of the rest
  pub follows_rest : {q : List ℕ} {k : ℕ} → MayFollow table q k → Memᴰ k (rest table q)
  follows_rest {q} {k} f = (rest_member table q k).1 (Memᴰ.cast (sym f.numbered) (job_known table sound f.job f.of_table).0, f.distinct)

  -- each job of a sequence is one of the table's
  pub sequence_known : (q : List ℕ) → Sequence table q → (k : ℕ) → Memᴰ k q → Memᴰ k (numbers table)
  sequence_known [] s k m = absurd (Memᴰ.not-nil m)
  sequence_known (j ∷ q) s k m = step (Memᴰ.cases_cons m) (sequence_known q s.1 k)
    where
      step : (k ≡ j) ⊎ Memᴰ k q → (Memᴰ k q → Memᴰ k (numbers table)) → Memᴰ k (numbers table)
      step (inl e) below = Memᴰ.cast e ((rest_member table q j).0 (follows_rest s.0)).0
      step (inr m) below = below m

  -- a sequence and its rest are together as many as the table's jobs
  pub sequence_length : (q : List ℕ) → Sequence table q → length (rest table q) + length q ≡ length (numbers table)
  unfolding has
  sequence_length [] s = omega (arith, ap length (keep_all (numbers table)))
  sequence_length (k ∷ q) s = omega (arith, rest_length table q k (follows_rest s.0), sequence_length q s.1)

  -- a sequence holds all jobs exactly when the test of its length says so
  pub full_means : (q : List ℕ) → Sequence table q → (full (length (numbers table)) q ≡ true) ↔ Full table q
  full_means q s = (
    λ h. (full_rest table q).1 (length_none (rest table q) (omega (arith, eqb-true (length q) (length (numbers table)) h, sequence_length q s))),
    λ f. eq-eqb (length q) (length (numbers table)) (omega (arith, ap length ((full_rest table q).0 f), sequence_length q s)),
  )
