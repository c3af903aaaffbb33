-- The limit of the jobs that there are, by their marks: one more than the number of the last mark, and 0 where there is none.
use Prim.Native.Nat.{ℕ, ◌+◌, ◌≤◌, ◌<◌}
use native.Mathlib.Omega.{arith}
use mathlib.Core.Path.{◌≡◌, refl}
use mathlib.Core.Bool.{Bool, true, false}
use mathlib.Core.Logic.{◌↔◌}
use mathlib.Core.List.Memᴰ
use mathlib.Core.List.{map, Memᴰ}
use lib.Dec.{ltb}
use lib.ListN.{get_or}
use borrow.Author.Tests.{ltb-true, ltb-false}
use Rattle.laws.specs.Lists.{count}
use Rattle.laws.proofs.Members.{true_not_false, keep_member, count_member, largest_bounds, largest_least}
use Rattle.jobs.specs.declared.Jobs.{Jobs}
use Rattle.normal.specs.Chosen.{present_in}
use Rattle.search.specs.State.{limit_of}

module _ (jobs : Jobs) where
  -- the numbers that there are
  present_means : (k : ℕ) → Memᴰ k (present_in jobs) ↔ ((k < 48) × (get_or jobs.present k false ≡ true))
  unfolding present_in
  present_means k = (
    λ m. let both = (keep_member (λ n. get_or jobs.present n false) (count 0 48) k).0 m in (((count_member 0 48 k).0 both.0).1, both.1),
    λ h. (keep_member (λ n. get_or jobs.present n false) (count 0 48) k).1 ((count_member 0 48 k).1 (omega arith, h.0), h.1),
  )

  -- the limit is at most a bound that each number is below
  limit_least : (bound : ℕ) → ((k : ℕ) → k < 48 → get_or jobs.present k false ≡ true → k < bound) → limit_of jobs ≤ bound
  unfolding limit_of
  limit_least bound h = largest_least (map (λ n. n + 1) (present_in jobs)) bound
      (λ x m. let r = Memᴰ.of_map (λ n. n + 1) (present_in jobs) m in let both = (present_means r.0).0 r.1 in omega (arith, r.2, h r.0 both.0 both.1))

  pub limit_none : ((k : ℕ) → k < 48 → get_or jobs.present k false ≡ false) → 0 ≡ limit_of jobs
  limit_none h = omega (arith, limit_least 0 (λ k b e. absurd (true_not_false e (h k b))))

  pub limit_last : (k : ℕ) → k < 48 → get_or jobs.present k false ≡ true → ((m : ℕ) → k < m → m < 48 → get_or jobs.present m false ≡ false) → k + 1 ≡ limit_of jobs
  unfolding limit_of
  limit_last k b e h =
      omega (
        arith,
        largest_bounds (map (λ n. n + 1) (present_in jobs)) (k + 1) (Memᴰ.map (λ n. n + 1) ((present_means k).1 (b, e))),
        limit_least (k + 1) (λ m c f. within m c f (ltb k m) refl),
      )
    where
      within : (m : ℕ) → m < 48 → get_or jobs.present m false ≡ true → (t : Bool) → ltb k m ≡ t → m < k + 1
      within m c f true l = absurd (true_not_false f (h m (ltb-true k m l) c))
      within m c f false l = omega (arith, ltb-false k m l)
