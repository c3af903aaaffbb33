-- A candidate for the next job, on the state that an open sequence leads to: it is opened exactly when it opens after the sequence, and ends when it does there.
-- The numbers that remain on the state are those of the jobs left, both rising; and the test for live after the sequence is the test of the job and of these.
use Prim.Native.Nat.{ℕ, ◌+◌, ◌<◌, max}
use native.Mathlib.Omega.{arith}
use mathlib.Core.Path.{◌≡◌, refl, sym, ap, ◌∙◌}
use mathlib.Core.Bool.{Bool, true, false, cond, not, ◌&&◌, and-eq-true_iff}
use mathlib.Core.Logic.{◌↔◌, ◌⊎◌, inl, inr}
use mathlib.Core.List.Memᴰ
use mathlib.Core.List.{List, [], ◌∷◌, map, map-map, Memᴰ}
use lib.Dec.{leb, eqb}
use lib.ListN.{get_or}
use borrow.Author.Tests.{ne_eqb, eqb-false, not-true}
use Rattle.laws.specs.Lists.{any, all, largest, total}
use Rattle.laws.proofs.Members.{either, true_not_false, not_false_true, keep_rising, map_same}
use Rattle.laws.proofs.Tests.{all_means, leb_means}
use Rattle.laws.proofs.Keeping.{all_same, all_map}
use Rattle.records.specs.declared.JobRecord.{JobRecord}
use Rattle.jobs.specs.Judge.{Sound, is_job}
use Rattle.jobs.specs.Jobs.{numbers, cost, deadline, job_at}
use Rattle.jobs.specs.Arrays.{jobs_of}
use Rattle.jobs.proofs.Sound.{numbers_member, numbers_below, numbers_rising, cost_positive}
use Rattle.std.specs.Prelude.{Option, Some, None}
use Rattle.search.specs.Run.{has, linked_from, may_follow, free, start_after, run_next, run}
use Rattle.search.specs.Live.{remaining, on_time, each_fits, all_fit, live}
use Rattle.search.specs.Tree.{opens}
use Rattle.search.specs.Order.{Sequence, Open}
use Rattle.search.specs.State.{at, is_placed, remains_after, left, fits_after, together_after, rest_fits, ends_at, opens_at, links_into}
use Rattle.search.proofs.Meanings.{has_not}
use Rattle.search.proofs.Rest.{rest, rest_member, remaining_rest}
use Rattle.search.proofs.Opening.{open_live}
use Rattle.search.proofs.ByNumber.{cost_at, release_at, deadline_at, limit, kept_below}
use Rattle.search.proofs.States.{state_of, state_left, free_last}
use Rattle.search.proofs.Links.{starts}

-- what it takes to remain after job k
remains_told : (placed : List Bool) (k n : ℕ) → (remains_after placed k n ≡ true) ↔ ((n ≡ k → ⊥) × (is_placed placed n ≡ false))
unfolding remains_after
remains_told placed k n = (
  λ h. let both = (and-eq-true_iff (not (eqb n k)) (not (is_placed placed n))).0 h in (eqb-false n k (not-true (eqb n k) both.0), not-true (is_placed placed n) both.1),
  λ h. rw (ne_eqb n k h.0, h.1),
)

-- all of some jobs fit together, by number and as jobs
together_all : (table : List JobRecord) (t : ℕ) (ns : List ℕ) → ((n : ℕ) → Memᴰ n ns → 0 < cost table n)
    → together_after t (total (map (cost table) ns)) (largest (map (deadline table) ns)) ≡ all_fit t (map (job_at table) ns)
unfolding together_after all_fit job_at
together_all table t [] h = refl
together_all table t (n ∷ ns) h =
    let some : cost table n + total (map (cost table) ns) ≡ 0 → ⊥ = λ e. omega (arith, h n (Memᴰ.head refl)) in
    let costs : map (λ j. j.cost) (map (job_at table) ns) ≡ map (cost table) ns = map-map (λ j. j.cost) (job_at table) ns in
    let deadlines : map (λ j. j.deadline) (map (job_at table) ns) ≡ map (deadline table) ns = map-map (λ j. j.deadline) (job_at table) ns in
    rw (ne_eqb (cost table n + total (map (cost table) ns)) 0 some, costs, deadlines)

module _ (table : List JobRecord) (sound : Sound table) where
  -- a test of each of some jobs, by number and as jobs
  each_all : (t : ℕ) (ns : List ℕ) → ((n : ℕ) → Memᴰ n ns → n < 48)
      → all (fits_after (jobs_of table).cost (jobs_of table).release (jobs_of table).deadline t) ns ≡ each_fits t (map (job_at table) ns)
  unfolding fits_after each_fits job_at
  each_all t ns below =
      all_same _ _ ns (λ n m. let b = below n m in rw (cost_at table n b, release_at table n b, deadline_at table n b))
      ∙ sym (all_map (λ j. leb (max t j.release + j.cost) j.deadline) (job_at table) ns)

  -- where the numbers that remain are those of the jobs left, the test of them is that of the jobs left
  fits_rest : (placed : List Bool) (k t : ℕ) (q : List ℕ) → left placed k (limit table) ≡ rest table q
      → rest_fits (jobs_of table).cost (jobs_of table).release (jobs_of table).deadline (limit table) placed k t ≡ (each_fits t (remaining table q) && all_fit t (remaining table q))
  unfolding rest_fits
  fits_rest placed k t q e =
      let known : (n : ℕ) → Memᴰ n (rest table q) → Memᴰ n (numbers table) = λ n m. ((rest_member table q n).0 m).0 in
      let below : (n : ℕ) → Memᴰ n (rest table q) → n < 48 = λ n m. numbers_below table n (known n m) in
      let costs : map (at (jobs_of table).cost) (rest table q) ≡ map (cost table) (rest table q) = map_same _ _ (rest table q) (λ n m. cost_at table n (below n m)) in
      let deadlines : map (at (jobs_of table).deadline) (rest table q) ≡ map (deadline table) (rest table q) = map_same _ _ (rest table q) (λ n m. deadline_at table n (below n m)) in
      rw (e, costs, deadlines, remaining_rest table q, each_all t (rest table q) below)
      (ap (λ b. each_fits t (map (job_at table) (rest table q)) && b) (together_all table t (rest table q) (λ n m. cost_positive table sound n (known n m))))

  -- after a sequence and job k, those of the jobs left remain
  left_after : (q : List ℕ) → Sequence table q → (k : ℕ) → left (state_of table q).placed k (limit table) ≡ rest table (k ∷ q)
  unfolding left
  left_after q s k =
      kept_below table (remains_after (state_of table q).placed k) (rest table (k ∷ q)) (keep_rising (λ n. not (has (k ∷ q) n)) (numbers table) (numbers_rising table))
      (λ n m. ((rest_member table (k ∷ q) n).0 m).0) (λ n below. (there n below, back n below))
    where
      there : (n : ℕ) → n < 48 → remains_after (state_of table q).placed k n ≡ true → Memᴰ n (rest table (k ∷ q))
      there n below h =
          let r = (remains_told (state_of table q).placed k n).0 h in
          let out = (rest_member table q n).0 ((state_left table sound q s n below).0 r.1) in
          (rest_member table (k ∷ q) n).1 (out.0, λ m. elim (Memᴰ.cases_cons m) [ inl y ↦ r.0 y | inr y ↦ out.1 y ])

      back : (n : ℕ) → n < 48 → Memᴰ n (rest table (k ∷ q)) → remains_after (state_of table q).placed k n ≡ true
      back n below m =
          let out = (rest_member table (k ∷ q) n).0 m in
          let still = (rest_member table q n).1 (out.0, λ y. out.1 (Memᴰ.tail y)) in
          (remains_told (state_of table q).placed k n).1 (λ y. out.1 (Memᴰ.head y), (state_left table sound q s n below).1 still)

  -- before any job has run, all of the table's do
  left_begun : left (state_of table []).placed 48 (limit table) ≡ rest table []
  unfolding left
  left_begun =
      kept_below table (remains_after (state_of table []).placed 48) (rest table []) (keep_rising (λ n. not (has [] n)) (numbers table) (numbers_rising table)) (λ n m. ((rest_member table [] n).0 m).0)
      (λ n below. (
        λ h. (state_left table sound [] tt n below).0 ((remains_told (state_of table []).placed 48 n).0 h).1,
        λ m. (remains_told (state_of table []).placed 48 n).1 (λ e. omega arith, (state_left table sound [] tt n below).1 m),
      ))

  -- the empty sequence is live exactly when all jobs fit after 0
  pub live_begun : rest_fits (jobs_of table).cost (jobs_of table).release (jobs_of table).deadline (limit table) (state_of table []).placed 48 0 ≡ live table []
  unfolding live run on_time free
  live_begun = fits_rest (state_of table []).placed 48 0 [] left_begun

  module _ (q : List ℕ) (o : Open table q) (k : ℕ) where
    -- when job k ends that runs after the sequence
    abbrev ended : ℕ
    ended = start_after table (run table q) k + cost table k

    -- a sequence with one job more is live exactly when that job ends by its deadline and the jobs left fit after it
    live_next : live table (k ∷ q) ≡ (leb ended (deadline table k) && (each_fits ended (remaining table (k ∷ q)) && all_fit ended (remaining table (k ∷ q))))
    unfolding live run run_next on_time free
    live_next = rw before (regroup (leb ended (deadline table k)) (each_fits ended (remaining table (k ∷ q))) (all_fit ended (remaining table (k ∷ q))))
      where
        before : all (λ s. leb s.end (deadline table s.number)) (run table q) ≡ true
        before = (all_means (λ s. leb_means s.end (deadline table s.number)) (run table q)).1 (open_live table o).on_time

        regroup : (a b c : Bool) → (a && true && b && c) ≡ (a && (b && c))
        regroup true b c = refl
        regroup false b c = refl

    -- what the code finds of the candidate
    abbrev pub candidate : Option ℕ
    candidate =
        opens_at (jobs_of table).cost (jobs_of table).release (jobs_of table).deadline (get_or (links_into table) k []) (limit table) (state_of table q).placed (state_of table q).ends (state_of table q).free k

    -- a job of the table is opened exactly when it opens after the sequence, and ends when it does there
    pub candidate_known : Memᴰ k (numbers table) → candidate ≡ cond (opens table q k) (Some (free (run table (k ∷ q)))) None
    unfolding opens_at opens may_follow ends_at
    candidate_known known = step (either (is_placed (state_of table q).placed k))
      where
        below : k < 48
        below = numbers_below table k known

        tried : (ready : Bool)
            → ends_at (jobs_of table).cost (jobs_of table).release (jobs_of table).deadline (limit table) (state_of table q).placed k (cond ready (Some (start_after table (run table q) k)) None)
            ≡ cond (ready && live table (k ∷ q)) (Some (free (run table (k ∷ q)))) None
        tried true =
            rw (cost_at table k below, deadline_at table k below, fits_rest (state_of table q).placed k ended (k ∷ q) (left_after q o.sequence k), live_next, free_last table q k)
        tried false = refl

        step : (is_placed (state_of table q).placed k ≡ true) ⊎ (is_placed (state_of table q).placed k ≡ false) → candidate ≡ cond (opens table q k) (Some (free (run table (k ∷ q)))) None
        step (inl e) =
            let holds : has q k ≡ true = not_false_true (has q k) (λ h. true_not_false e ((state_left table sound q o.sequence k below).1 ((rest_member table q k).1 (known, (has_not q k).0 (rw h))))) in
            rw (e, holds)
        step (inr e) =
            let out = (rest_member table q k).0 ((state_left table sound q o.sequence k below).0 e) in
            let lacks : has q k ≡ false = not-true (has q k) ((has_not q k).1 out.1) in
            rw (e, lacks, starts table sound k below q o.sequence) (tried (all (linked_from q k) table))

    -- a number that no job has is never opened
    pub candidate_unknown : k < 48 → any (is_job k) table ≡ false → candidate ≡ None
    unfolding opens_at
    candidate_unknown below none = rw marked
      where
        marked : is_placed (state_of table q).placed k ≡ true
        marked =
            not_false_true (is_placed (state_of table q).placed k)
            (λ h. true_not_false ((numbers_member table k).0 ((rest_member table q k).0 ((state_left table sound q o.sequence k below).0 h)).0).1 none)
