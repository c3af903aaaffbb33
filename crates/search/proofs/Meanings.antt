-- The tests of the search say what the plain words say: a job may follow, a sequence is live. A test over a list holds exactly when what it tests holds of every element;
-- the largest remaining deadline is reached exactly when that of some remaining job is.
use Prim.Native.Nat.{ℕ, ◌+◌, ◌≤◌, max}
use native.Mathlib.Omega.{arith}
use mathlib.Core.Bool.{Bool, true, false, not, ◌||◌, and-eq-true_iff}
use mathlib.Core.Path.{◌≡◌, refl}
use mathlib.Core.Logic.{◌↔◌, ◌⊎◌, inl, inr}
use mathlib.Core.List.Memᴰ
use mathlib.Core.List.{List, [], ◌∷◌, map, Memᴰ}
use lib.Dec.{eqb, leb}
use borrow.Author.Tests.{eqb-true, eqb-false, eq-eqb, not-true, leb-true, le-leb}
use Rattle.laws.specs.Lists.{all, Every, total, largest}
use Rattle.laws.proofs.Members.{true_not_false, not_true_false, every_member, member_every, member_any, any_member, largest_bounds}
use Rattle.laws.proofs.Tests.{all_means, leb_means, largest_attained}
use Rattle.records.specs.declared.Job.{Job}
use Rattle.records.specs.declared.Link.{Link}
use Rattle.records.specs.declared.JobRecord.{JobRecord}
use Rattle.records.specs.declared.JobRecord.TheVariants.{J, L}
use Rattle.jobs.specs.Jobs.{numbers, deadline}
use Rattle.jobs.proofs.Sound.{number_known}
use Rattle.search.specs.Run.{has, linked_from, may_follow, free, run}
use Rattle.search.specs.Live.{remaining, on_time, each_fits, all_fit, live}
use Rattle.search.specs.Order.{MayFollow, Live}

-- the test for a job in a sequence
pub has_member : (q : List ℕ) (k : ℕ) → (has q k ≡ true) ↔ Memᴰ k q
unfolding has
has_member q k = (
  λ h. let r = any_member (eqb k) q h in Memᴰ.cast (eqb-true k r.0 r.2) r.1,
  λ m. member_any (eqb k) m (eq-eqb k k refl),
)

-- the test for a job not in a sequence
pub has_not : (q : List ℕ) (k : ℕ) → (not (has q k) ≡ true) ↔ (Memᴰ k q → ⊥)
has_not q k = (
  λ h m. true_not_false ((has_member q k).1 m) (not-true (has q k) h),
  λ h. let e : has q k ≡ false = not_true_false (has q k) (λ t. h ((has_member q k).0 t)) in rw e,
)

-- a record links to job k only from jobs in the sequence
abbrev pub LinkedFrom : List ℕ → ℕ → JobRecord → Type 0
LinkedFrom q k (J j) = Unit {0}
LinkedFrom q k (L l) = l.to ≡ k → Memᴰ l.from q

-- the test for that
pub linked_from_means : (q : List ℕ) (k : ℕ) (r : JobRecord) → (linked_from q k r ≡ true) ↔ LinkedFrom q k r
linked_from_means q k (J j) = (λ h. tt, λ h. refl)
linked_from_means q k (L l) = step (eqb l.to k) refl
  where
    step : (t : Bool) → eqb l.to k ≡ t → ((not t || has q l.from) ≡ true) ↔ (l.to ≡ k → Memᴰ l.from q)
    step true e = (λ h same. (has_member q l.from).0 h, λ h. (has_member q l.from).1 (h (eqb-true l.to k e)))
    step false e = (λ h same. absurd (eqb-false l.to k e same), λ h. refl)

-- the test that each link to job k comes from a job in the sequence
pub all_linked : (table : List JobRecord) (q : List ℕ) (k : ℕ) → (all (linked_from q k) table ≡ true) ↔ ((l : Link) → Memᴰ (L l) table → l.to ≡ k → Memᴰ l.from q)
all_linked table q k = (
  λ h l. every_member (LinkedFrom q k) ((all_means (linked_from_means q k) table).0 h) (L l),
  λ h. (all_means (linked_from_means q k) table).1 (member_every (LinkedFrom q k) table (elim [ J j ↦ λ m. tt | L l ↦ h l ])),
)

-- a job of the table may follow a sequence exactly when the test says so
pub may_follow_means : (table : List JobRecord) (q : List ℕ) (k : ℕ) → Memᴰ k (numbers table) → (may_follow table q k ≡ true) ↔ MayFollow table q k
unfolding may_follow
may_follow_means table q k known = (
  λ h.
      let both = (and-eq-true_iff (not (has q k)) (all (linked_from q k) table)).0 h in
      let j = number_known table k known in
      record { job = j.0; of_table = j.1; numbered = j.2; distinct = (has_not q k).0 both.0; linked = (all_linked table q k).0 both.1 },
  λ f. (and-eq-true_iff (not (has q k)) (all (linked_from q k) table)).1 ((has_not q k).1 f.distinct, (all_linked table q k).1 f.linked),
)

-- the largest deadline is reached exactly when one of them is
pub largest_reached : (sum : ℕ) (j : Job) (jobs : List Job) → (leb sum (largest (map (λ k. k.deadline) (j ∷ jobs))) ≡ true) ↔ ((k : Job) × Memᴰ k (j ∷ jobs) × (sum ≤ k.deadline))
largest_reached sum j jobs = (
  λ h.
      let r = Memᴰ.of_map (λ k. k.deadline) (j ∷ jobs) (largest_attained j.deadline (map (λ k. k.deadline) jobs)) in
      (r.0, r.1, omega (arith, r.2, leb-true sum (largest (map (λ k. k.deadline) (j ∷ jobs))) h)),
  λ r.
      le-leb sum (largest (map (λ k. k.deadline) (j ∷ jobs)))
      (omega (arith, r.2, largest_bounds (map (λ k. k.deadline) (j ∷ jobs)) r.0.deadline (Memᴰ.map (λ k. k.deadline) r.1))),
)

-- the test that all remaining jobs fit together
pub all_fit_means : (t : ℕ) (jobs : List Job) → (all_fit t jobs ≡ true) ↔ ((jobs ≡ []) ⊎ ((j : Job) × Memᴰ j jobs × (t + total (map (λ k. k.cost) jobs) ≤ j.deadline)))
unfolding all_fit
all_fit_means t [] = (λ h. inl refl, λ h. refl)
all_fit_means t (j ∷ jobs) = (
  λ h. inr ((largest_reached sum j jobs).0 h),
  elim [ inl e ↦ absurd (grind arith) | inr r ↦ (largest_reached sum j jobs).1 r ],
)
  where
    sum : ℕ
    sum = t + total (map (λ k. k.cost) (j ∷ jobs))

-- a sequence is live exactly when the test says so
pub live_means : (table : List JobRecord) (q : List ℕ) → (live table q ≡ true) ↔ Live table q
unfolding live on_time each_fits
live_means table q = (
  λ h.
      let last = (and-eq-true_iff _ _).0 h in
      let first = (and-eq-true_iff _ _).0 last.0 in
      record { on_time = on.0 first.0; each_fits = each.0 first.1; all_fit = together.0 last.1 },
  λ l. (and-eq-true_iff _ _).1 ((and-eq-true_iff _ _).1 (on.1 l.on_time, each.1 l.each_fits), together.1 l.all_fit),
)
  where
    on : (on_time table (run table q) ≡ true) ↔ Every (λ s. s.end ≤ deadline table s.number) (run table q)
    on = all_means (λ s. leb_means s.end (deadline table s.number)) (run table q)

    each : (each_fits (free (run table q)) (remaining table q) ≡ true) ↔ Every (λ j. max (free (run table q)) j.release + j.cost ≤ j.deadline) (remaining table q)
    each = all_means (λ j. leb_means (max (free (run table q)) j.release + j.cost) j.deadline) (remaining table q)

    together : (all_fit (free (run table q)) (remaining table q) ≡ true) ↔ ((remaining table q ≡ []) ⊎ ((j : Job) × Memᴰ j (remaining table q) × (free (run table q) + total (map (λ k. k.cost) (remaining table q)) ≤ j.deadline)))
    together = all_fit_means (free (run table q)) (remaining table q)
