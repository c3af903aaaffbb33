-- The latest permitted start of each job: `latest_of` is it, in a table that normalising does not refuse.
-- Along a chain permitted starts grow, so that each deadline bounds the starts before it from above; nothing goes below zero, as the earliest starts keep those bounds.
-- It is attained by all jobs at their earliest but for the job itself at its latest and what that pushes on.
use Prim.Native.Nat.{ℕ, zero, suc, ◌+◌, ◌-◌, ◌<◌, ◌≤◌, max}
use native.Mathlib.Omega.{arith}
use mathlib.Core.Path.{◌≡◌, refl}
use mathlib.Core.Bool.{Bool, true, false, cond}
use mathlib.Core.List.Memᴰ
use mathlib.Core.List.{List, [], ◌∷◌, map, Memᴰ}
use borrow.Author.Tests.{eqb-true, eq-eqb}
use lib.Dec.{eqb}
use Rattle.laws.specs.Lists.{Every}
use Rattle.laws.proofs.Members.{every_member, member_every}
use Rattle.records.specs.Record.{link}
use Rattle.records.specs.declared.JobRecord.{JobRecord}
use Rattle.records.specs.declared.JobRecord.TheVariants.{L}
use Rattle.jobs.specs.Jobs.{numbers, cost, deadline}
use Rattle.jobs.specs.Starts.{Permitted, Latest}
use Rattle.jobs.proofs.Sound.{permitted_by_number}
use Rattle.normal.specs.Windows.{after, before, smallest, last_start, latest_of}
use Rattle.normal.proofs.WindowsEarliest.{Normalisable, gaps_right, gap, earliest, latest, chain_grows, gap_chain, gap_joins, chain_to, link_gap, after_gap, after_least, release_earliest, earliest_grows, earliest_ends}

-- the smallest of a number and a list is at most the number, and at most each of the list
pub smallest_bounds : (n : ℕ) (xs : List ℕ) → (smallest n xs ≤ n) × ((x : ℕ) → Memᴰ x xs → smallest n xs ≤ x)
smallest_bounds n xs = (first xs, every_member (λ x. smallest n xs ≤ x) (others xs))
  where
    first : (xs : List ℕ) → smallest n xs ≤ n
    first [] = omega arith
    first (x ∷ xs) = omega (arith, first xs)

    others : (xs : List ℕ) → Every (λ x. smallest n xs ≤ x) xs
    others [] = tt
    others (x ∷ xs) = (omega arith, member_every (λ y. smallest n (x ∷ xs) ≤ y) xs (λ y m. omega (arith, every_member (λ y. smallest n xs ≤ y) (others xs) y m)))

-- the smallest of a number and a list is at least what all of them are at least
smallest_greatest : (n bound : ℕ) (xs : List ℕ) → bound ≤ n → ((x : ℕ) → Memᴰ x xs → bound ≤ x) → bound ≤ smallest n xs
smallest_greatest n bound [] h each = h
smallest_greatest n bound (x ∷ xs) h each =
    omega (arith, each x (Memᴰ.head refl), smallest_greatest n bound xs h (λ y m. each y (Memᴰ.tail m)))

-- a time and the gap before it, where there is one
pub before_gap : (other time gap : ℕ) → 0 < gap → before other time gap ≡ time - gap
before_gap other time zero h = absurd (omega arith)
before_gap other time (suc gap) h = refl

-- what a time and the gap before it are at least, where there is a gap
before_greatest : (other time gap bound : ℕ) → bound ≤ other → (0 < gap → bound ≤ time - gap) → bound ≤ before other time gap
before_greatest other time zero bound h each = h
before_greatest other time (suc gap) bound h each = each (omega arith)

module _ (table : List JobRecord) where
  -- by when job j starts for the sake of job k
  abbrev held : ℕ → ℕ → ℕ
  held j k = before (last_start table j) (last_start table k) (gap table j k)

  -- the latest start of a job is at most the last start by which it ends by its deadline
  pub latest_last : (j : ℕ) → latest table j ≤ last_start table j
  unfolding latest_of
  latest_last j = (smallest_bounds (last_start table j) (map (held j) (numbers table))).0

  -- and before that of each job it leads to, by the gap
  pub gap_latest : (j k : ℕ) → Memᴰ k (numbers table) → 0 < gap table j k → latest table j ≤ last_start table k - gap table j k
  unfolding latest_of
  gap_latest j k m h =
      let b : latest table j ≤ held j k = (smallest_bounds (last_start table j) (map (held j) (numbers table))).1 (held j k) (Memᴰ.map (held j) m) in
      omega (arith, before_gap (last_start table j) (last_start table k) (gap table j k) h)

  -- and it is the greatest time that is
  pub latest_greatest : (j time : ℕ) → time ≤ last_start table j → ((k : ℕ) → Memᴰ k (numbers table) → 0 < gap table j k → time ≤ last_start table k - gap table j k) → time ≤ latest table j
  unfolding latest_of
  latest_greatest j time h each = smallest_greatest (last_start table j) time (map (held j) (numbers table)) h (λ x m. above x (Memᴰ.of_map (held j) (numbers table) m))
    where
      above : (x : ℕ) → (k : ℕ) × Memᴰ k (numbers table) × (held j k ≡ x) → time ≤ x
      above x r = omega (arith, before_greatest (last_start table j) (last_start table r.0) (gap table j r.0) time h (each r.0 r.1), r.2)

-- what job i at its latest start asks of the start of job k: its own latest, and that and the gap where a chain leads to k
abbrev pub pushed : List JobRecord → ℕ → ℕ → ℕ
pushed table i k = cond (eqb i k) (latest table i) (after (latest table i) (gap table i k))

-- all jobs at their earliest, but for job i at its latest and what that pushes on
abbrev pub delayed : List JobRecord → ℕ → ℕ → ℕ
delayed table i k = max (earliest table k) (pushed table i k)

module _ {table : List JobRecord} (normalisable : Normalisable table) where
  -- a job that starts by its last start ends by its deadline
  pub last_ends : (n : ℕ) → Memᴰ n (numbers table) → last_start table n + cost table n ≡ deadline table n
  unfolding last_start
  last_ends n m = omega (arith, earliest_ends normalisable n m)

  -- the earliest starts are by the last starts, also by the gap
  earliest_last : (n : ℕ) → Memᴰ n (numbers table) → earliest table n ≤ last_start table n
  earliest_last n m = omega (arith, earliest_ends normalisable n m, last_ends n m)

  pub gap_last : (j k : ℕ) → Memᴰ k (numbers table) → 0 < gap table j k → earliest table j + gap table j k ≤ last_start table k
  gap_last j k m h = omega (arith, earliest_grows normalisable.sound (gaps_right normalisable) j k h, earliest_last k m)

  -- a job's earliest start is by its latest
  pub earliest_latest : (n : ℕ) → Memᴰ n (numbers table) → earliest table n ≤ latest table n
  earliest_latest n m = latest_greatest table n (earliest table n) (earliest_last n m) (λ k l h. omega (arith, gap_last n k l h))

  -- along a gap the latest starts grow by it
  pub latest_grows : (i j : ℕ) → 0 < gap table i j → latest table i + gap table i j ≤ latest table j
  latest_grows i j h =
      latest_greatest table j (latest table i + gap table i j)
      (omega (arith, gap_latest table i j to h, gap_last i j to h))
      (λ k m l. let joins = gap_joins (gaps_right normalisable) i j k h l in let over : 0 < gap table i k = omega arith in omega (arith, gap_latest table i k m over, gap_last i k m over))
    where
      to : Memᴰ j (numbers table)
      to = chain_to normalisable.sound (gap_chain (gaps_right normalisable) i j h)

  -- permitted starts are at or before the latest
  pub latest_bounds : (start : ℕ → ℕ) → Permitted table start → (j : ℕ) → Memᴰ j (numbers table) → start j ≤ latest table j
  latest_bounds start h j m =
      latest_greatest table j (start j) (by_last j m)
      (λ k n l. omega (arith, by_last k n, chain_grows normalisable.sound start h (gap_chain (gaps_right normalisable) j k l)))
    where
      by_last : (n : ℕ) → Memᴰ n (numbers table) → start n ≤ last_start table n
      by_last n m = omega (arith, (((permitted_by_number table normalisable.sound start).0 h).windows n m).1, last_ends n m)

  -- no chain leads from a job to itself
  pub no_loop : (i : ℕ) → gap table i i ≡ 0
  no_loop i = go (gap table i i) refl
    where
      go : (g : ℕ) → gap table i i ≡ g → gap table i i ≡ 0
      go zero e = e
      go (suc g) e = absurd (omega (arith, earliest_grows normalisable.sound (gaps_right normalisable) i i (omega arith)))

  module _ (i : ℕ) (known : Memᴰ i (numbers table)) where
    -- what job i pushes on is by the latest start
    pushed_latest : (k : ℕ) → pushed table i k ≤ latest table k
    pushed_latest k = go (eqb i k) refl
      where
        go : (t : Bool) → eqb i k ≡ t → cond t (latest table i) (after (latest table i) (gap table i k)) ≤ latest table k
        go true e = let same : i ≡ k = eqb-true i k e in rw same (omega arith)
        go false e = after_least (latest table i) (gap table i k) (latest table k) (latest_grows i k)

    -- what job i pushes on at its gaps
    pub pushed_gap : (k : ℕ) → 0 < gap table i k → pushed table i k ≡ latest table i + gap table i k
    pushed_gap k h = go (eqb i k) refl
      where
        go : (t : Bool) → eqb i k ≡ t → cond t (latest table i) (after (latest table i) (gap table i k)) ≡ latest table i + gap table i k
        go true e = let same : i ≡ k = eqb-true i k e in absurd (omega (arith, rw (← same) at h, no_loop i))
        go false e = after_gap (latest table i) (gap table i k) h

    -- what job i pushes on is pushed on by links
    pushed_link : (k m l : ℕ) → Memᴰ (L (link k m l)) table → pushed table i k + (cost table k + l) ≤ delayed table i m
    pushed_link k m l n = go (eqb i k) refl
      where
        linked : (0 < gap table k m) × (cost table k + l ≤ gap table k m)
        linked = link_gap normalisable.sound (gaps_right normalisable) k m l n

        further : 0 < gap table i k → latest table i + gap table i k ≤ delayed table i m - (cost table k + l)
        further h = let joins = gap_joins (gaps_right normalisable) i k m h linked.0 in omega (arith, pushed_gap m (omega arith), linked)

        go : (t : Bool) → eqb i k ≡ t → cond t (latest table i) (after (latest table i) (gap table i k)) + (cost table k + l) ≤ delayed table i m
        go true e = let same : i ≡ k = eqb-true i k e in let at : (0 < gap table i m) × (cost table k + l ≤ gap table i m) = rw same linked in omega (arith, pushed_gap m at.0)
        go false e = omega (arith, after_least (latest table i) (gap table i k) (delayed table i m - (cost table k + l)) further, earliest_grows normalisable.sound (gaps_right normalisable) k m linked.0, linked)

    -- the delayed starts are by the latest
    delayed_latest : (k : ℕ) → Memᴰ k (numbers table) → delayed table i k ≤ latest table k
    delayed_latest k m = omega (arith, pushed_latest k, earliest_latest k m)

    -- and they are permitted
    pub delayed_permitted : Permitted table (delayed table i)
    delayed_permitted =
        (permitted_by_number table normalisable.sound (delayed table i)).1
        (record {
          windows = λ n m. omega (arith, release_earliest table n, delayed_latest n m, latest_last table n, last_ends n m);
          links = λ k m l n.
              let linked = link_gap normalisable.sound (gaps_right normalisable) k m l n in
              omega (arith, pushed_link k m l n, earliest_grows normalisable.sound (gaps_right normalisable) k m linked.0);
        })

    -- job i itself is at its latest
    pub delayed_self : delayed table i i ≡ latest table i
    delayed_self = rw (eq-eqb i i refl) (omega (arith, earliest_latest i known))

    -- so `latest_of` is the latest permitted start
    pub latest_right : Latest table i (latest table i)
    latest_right = record {
      start = delayed table i;
      permitted = delayed_permitted;
      attained = delayed_self;
      bounds = λ other h. latest_bounds other h i known;
    }
