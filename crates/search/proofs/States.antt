-- The state that a sequence leads to, and what its parts say of the sequence: which jobs are left, when each one ended, when the core is free, and in what order they ran.
-- Each is by induction on the sequence: a job placed changes what stands at its own number, or at its own place, and nothing else.
use Prim.Native.Nat.{ℕ, ◌+◌, ◌≤◌, ◌<◌}
use native.Mathlib.Omega.{arith}
use mathlib.Core.Path.{◌≡◌, refl, sym, ap, ◌∙◌}
use mathlib.Core.Bool.{Bool, true, false, not}
use mathlib.Core.Logic.{◌↔◌, inl, inr}
use mathlib.Core.List.Memᴰ
use mathlib.Core.List.{List, [], ◌∷◌, ◌++◌, map, reverse, reverse-cons, Memᴰ}
use lib.Dec.{eqb}
use lib.ListN.{length, set, take, length-set, length-map, length-replicate, get_or-replicate, get_or-map}
use lib.Seq.{get_or-set_same, get_or-set_other, take-suc-set}
use borrow.Author.Tests.{eqb-true, eqb-false, not-false}
use Rattle.laws.specs.Lists.{any, count}
use Rattle.laws.proofs.Members.{true_not_false}
use Rattle.laws.proofs.Rows.{length_row}
use Rattle.records.specs.declared.JobRecord.{JobRecord}
use Rattle.jobs.specs.Judge.{Sound, is_job}
use Rattle.jobs.specs.Jobs.{cost}
use Rattle.jobs.specs.Arrays.{jobs_of}
use Rattle.jobs.proofs.Sound.{numbers_member, numbers_below}
use Rattle.search.specs.declared.State.{State}
use Rattle.search.specs.Run.{end_in, free, start_after, run_next, run}
use Rattle.search.specs.Order.{Sequence}
use Rattle.search.specs.State.{at, is_placed, place_at, begun}
use Rattle.search.proofs.Rest.{rest, rest_member, follows_rest}
use Rattle.search.proofs.Running.{end_last, end_other}
use Rattle.search.proofs.ByNumber.{present_at}

-- the state that a sequence leads to
unfoldable pub state_of : List JobRecord → List ℕ → State
state_of table [] = begun (jobs_of table).present
state_of table (k ∷ q) = place_at (state_of table q) k (free (run table (k ∷ q))) (length q)

module _ (table : List JobRecord) where
  -- its arrays have 48 places
  placed_length : (q : List ℕ) → length (state_of table q).placed ≡ 48
  unfolding state_of begun place_at jobs_of
  placed_length [] = length-map (map (λ n. any (is_job n) table) (count 0 48)) not ∙ length_row (λ n. any (is_job n) table) 0 48
  placed_length (k ∷ q) = length-set (state_of table q).placed k true ∙ placed_length q

  ends_length : (q : List ℕ) → length (state_of table q).ends ≡ 48
  unfolding state_of begun place_at
  ends_length [] = length-replicate {A = ℕ} 48 0
  ends_length (k ∷ q) = length-set (state_of table q).ends k (free (run table (k ∷ q))) ∙ ends_length q

  pub order_length : (q : List ℕ) → length (state_of table q).order ≡ 48
  unfolding state_of begun place_at
  order_length [] = length-replicate {A = ℕ} 48 0
  order_length (k ∷ q) = length-set (state_of table q).order (length q) k ∙ order_length q

  -- the core is free when the last job has ended
  pub state_free : (q : List ℕ) → (state_of table q).free ≡ free (run table q)
  unfolding state_of begun place_at run free
  state_free [] = refl
  state_free (k ∷ q) = refl

  -- the order is the sequence, in running order
  pub state_order : (q : List ℕ) → length q ≤ 48 → take (length q) (state_of table q).order ≡ reverse q
  unfolding state_of place_at
  state_order [] h = refl
  state_order (k ∷ q) h =
      take-suc-set (state_of table q).order (length q) k (omega (arith, order_length q))
      ∙ ap (λ (l : List ℕ). l ++ (k ∷ [])) (state_order q (omega arith))
      ∙ sym (reverse-cons k q)

  -- the core is free a cost after the last job's start
  pub free_last : (q : List ℕ) (k : ℕ) → free (run table (k ∷ q)) ≡ start_after table (run table q) k + cost table k
  unfolding run run_next free
  free_last q k = refl

module _ (table : List JobRecord) (sound : Sound table) where
  -- a job of a sequence has a number below 48
  last_below : (q : List ℕ) (k : ℕ) → Sequence table (k ∷ q) → k < 48
  last_below q k s = numbers_below table k ((rest_member table q k).0 (follows_rest table sound s.0)).0

  -- each job ended in the state when it did in the run, at 0 if it has not run
  pub state_ends : (q : List ℕ) → Sequence table q → (i : ℕ) → i < 48 → at (state_of table q).ends i ≡ end_in (run table q) i
  unfolding state_of begun place_at run end_in
  state_ends [] s i below = get_or-replicate 48 i 0 0 below
  state_ends (k ∷ q) s i below = step (eqb k i) refl (state_ends q s.1 i below)
    where
      ended : ℕ
      ended = free (run table (k ∷ q))

      step : (t : Bool) → eqb k i ≡ t → at (state_of table q).ends i ≡ end_in (run table q) i → at (set (state_of table q).ends k ended) i ≡ end_in (run table (k ∷ q)) i
      step true e ih =
          let same : i ≡ k = sym (eqb-true k i e) in
          rw same (get_or-set_same (state_of table q).ends k ended 0 (omega (arith, last_below q k s, ends_length table q)) ∙ free_last table q k ∙ sym (end_last table q k))
      step false e ih = get_or-set_other (state_of table q).ends k i ended 0 (λ (x : i ≡ k). eqb-false k i e (sym x)) ∙ ih ∙ sym (end_other table q k i e)

  -- the numbers that are not marked as placed are those of the jobs left
  pub state_left : (q : List ℕ) → Sequence table q → (n : ℕ) → n < 48 → (is_placed (state_of table q).placed n ≡ false) ↔ Memᴰ n (rest table q)
  unfolding state_of begun place_at
  state_left [] s n below = (
    λ h. (rest_member table [] n).1 ((numbers_member table n).1 (below, not-false _ (sym marked ∙ h)), Memᴰ.not-nil),
    λ m. marked ∙ ap not ((numbers_member table n).0 ((rest_member table [] n).0 m).0).1,
  )
    where
      marked : is_placed (map not (jobs_of table).present) n ≡ not (any (is_job n) table)
      marked = get_or-map not (jobs_of table).present n true ∙ ap not (present_at table n below true)
  state_left (k ∷ q) s n below = let before = state_left q s.1 n below in (there (eqb n k) refl before.0, back before.1)
    where
      other : (n ≡ k → ⊥) → is_placed (set (state_of table q).placed k true) n ≡ is_placed (state_of table q).placed n
      other x = get_or-set_other (state_of table q).placed k n true false x

      there : (t : Bool) → eqb n k ≡ t → (is_placed (state_of table q).placed n ≡ false → Memᴰ n (rest table q))
          → is_placed (set (state_of table q).placed k true) n ≡ false → Memᴰ n (rest table (k ∷ q))
      there true e before h =
          let same : n ≡ k = eqb-true n k e in
          absurd (true_not_false (get_or-set_same (state_of table q).placed k true false (omega (arith, placed_length table q))) (rw same at h))
      there false e before h =
          let x : n ≡ k → ⊥ = eqb-false n k e in
          let out = (rest_member table q n).0 (before (sym (other x) ∙ h)) in
          (rest_member table (k ∷ q) n).1 (out.0, λ m. elim (Memᴰ.cases_cons m) [ inl y ↦ x y | inr y ↦ out.1 y ])

      back : (Memᴰ n (rest table q) → is_placed (state_of table q).placed n ≡ false) → Memᴰ n (rest table (k ∷ q)) → is_placed (set (state_of table q).placed k true) n ≡ false
      back before m =
          let out = (rest_member table (k ∷ q) n).0 m in
          other (λ y. out.1 (Memᴰ.head y)) ∙ before ((rest_member table q n).1 (out.0, λ y. out.1 (Memᴰ.tail y)))
