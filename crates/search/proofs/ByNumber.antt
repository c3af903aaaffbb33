-- A table's jobs and links as the search's code holds them: what stands at a number, the numbers that there are, and the limit above them.
-- Lists of numbers that both rise are compared by which numbers they hold.
use Prim.Native.Nat.{ℕ, ◌+◌, ◌≤◌, ◌<◌}
use native.Mathlib.Omega.{arith}
use mathlib.Core.Path.{◌≡◌, ap, ◌∙◌}
use mathlib.Core.Bool.{Bool, true, false}
use mathlib.Core.Logic.{◌↔◌}
use mathlib.Core.List.Memᴰ
use mathlib.Core.List.{List, [], map, Memᴰ}
use lib.ListN.{length, get_or}
use Rattle.laws.specs.Lists.{any, keep, count, largest}
use Rattle.laws.proofs.Members.{count_member, keep_member, keep_length, keep_same, keep_rising, count_rising, largest_bounds, largest_least, Rising}
use Rattle.laws.proofs.Rows.{get_d_row}
use Rattle.laws.proofs.Keeping.{rising_same}
use Rattle.records.specs.declared.JobRecord.{JobRecord}
use Rattle.jobs.specs.Judge.{is_job}
use Rattle.jobs.specs.Jobs.{numbers, cost, release, deadline, strongest}
use Rattle.jobs.specs.Arrays.{jobs_of}
use Rattle.jobs.proofs.Sound.{numbers_member, numbers_below, numbers_rising}
use Rattle.normal.specs.Chosen.{present_in}
use Rattle.search.specs.State.{at, limit_of, links_into}

module _ (table : List JobRecord) where
  module _ (n : ℕ) (below : n < 48) where
    -- what stands at a number is what the table says of the job with that number
    pub cost_at : at (jobs_of table).cost n ≡ cost table n
    unfolding jobs_of
    cost_at = get_d_row (cost table) 48 n 0 below

    pub release_at : at (jobs_of table).release n ≡ release table n
    unfolding jobs_of
    release_at = get_d_row (release table) 48 n 0 below

    pub deadline_at : at (jobs_of table).deadline n ≡ deadline table n
    unfolding jobs_of
    deadline_at = get_d_row (deadline table) 48 n 0 below

    pub present_at : (d : Bool) → get_or (jobs_of table).present n d ≡ any (is_job n) table
    unfolding jobs_of
    present_at d = get_d_row (λ n. any (is_job n) table) 48 n d below

    pub link_at : (i : ℕ) → i < 48 → at (get_or (links_into table) n []) i ≡ strongest table i n
    unfolding links_into
    link_at i h =
        ap (λ (row : List ℕ). at row i) (get_d_row (λ k. map (λ i. strongest table i k) (count 0 48)) 48 n [] below)
        ∙ get_d_row (λ i. strongest table i n) 48 i 0 h

  -- the numbers that are marked as present are the table's
  pub numbers_in : present_in (jobs_of table) ≡ numbers table
  unfolding present_in numbers
  numbers_in =
      keep_same (λ n. get_or (jobs_of table).present n false) (λ n. any (is_job n) table) (count 0 48)
      (λ n m. present_at n ((count_member 0 48 n).0 m).1 false)

  -- there are at most 48 of them
  pub numbers_most : length (numbers table) ≤ 48
  unfolding numbers
  numbers_most = omega (arith, keep_length (λ n. any (is_job n) table) (count 0 48))

  -- the limit is above each of them, and at most 48
  abbrev pub limit : ℕ
  limit = limit_of (jobs_of table)

  limit_is : limit ≡ largest (map (λ n. n + 1) (numbers table))
  unfolding limit_of
  limit_is = ap (λ (ns : List ℕ). largest (map (λ n. n + 1) ns)) numbers_in

  pub limit_above : (n : ℕ) → Memᴰ n (numbers table) → n < limit
  limit_above n m = omega (arith, limit_is, largest_bounds (map (λ n. n + 1) (numbers table)) (n + 1) (Memᴰ.map (λ n. n + 1) m))

  pub limit_most : limit ≤ 48
  limit_most =
      rw limit_is
      (largest_least (map (λ n. n + 1) (numbers table)) 48
      (λ x m. let r = Memᴰ.of_map (λ n. n + 1) (numbers table) m in omega (arith, r.2, numbers_below table r.0 r.1)))

  -- numbers below the limit that a test keeps are some rising list of the table's numbers, if the test tells which these are
  pub kept_below : (p : ℕ → Bool) (ns : List ℕ) → Rising ns → ((n : ℕ) → Memᴰ n ns → Memᴰ n (numbers table)) → ((n : ℕ) → n < 48 → (p n ≡ true) ↔ Memᴰ n ns)
      → keep p (count 0 limit) ≡ ns
  kept_below p ns rising known told = rising_same (keep p (count 0 limit)) ns (keep_rising p (count 0 limit) (count_rising 0 limit)) rising (λ n. (there n, back n))
    where
      there : (n : ℕ) → Memᴰ n (keep p (count 0 limit)) → Memᴰ n ns
      there n m =
          let r = (keep_member p (count 0 limit) n).0 m in
          let b = (count_member 0 limit n).0 r.0 in
          (told n (omega (arith, b.1, limit_most))).0 r.1

      back : (n : ℕ) → Memᴰ n ns → Memᴰ n (keep p (count 0 limit))
      back n m =
          let above = limit_above n (known n m) in
          (keep_member p (count 0 limit) n).1 ((count_member 0 limit n).1 (omega arith), (told n (omega (arith, limit_most))).1 m)

  -- so the table's numbers are those below the limit that a job has
  pub numbers_kept : keep (λ n. any (is_job n) table) (count 0 limit) ≡ numbers table
  numbers_kept = kept_below (λ n. any (is_job n) table) (numbers table) (numbers_rising table) (λ n m. m) (λ n below. (λ h. (numbers_member table n).1 (below, h), λ m. ((numbers_member table n).0 m).1))
