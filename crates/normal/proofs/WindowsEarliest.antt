-- The earliest permitted start of each job, and 8: `earliest_of` is the earliest permitted start, and given no ring 8 is given exactly when nothing is permitted.
-- Along a chain permitted starts grow by its sum, so that each release bounds the starts behind it from below;
-- the least times that keep those bounds keep the links, as gaps that follow one another join, and are permitted where they keep the deadlines.
use Prim.Native.Nat.{ℕ, zero, suc, ◌+◌, ◌-◌, ◌<◌, ◌≤◌}
use native.Mathlib.Omega.{arith}
use mathlib.Core.Path.{◌≡◌, refl, ap, ◌∙◌}
use mathlib.Core.Bool.{true, false}
use mathlib.Core.Logic.{◌↔◌}
use mathlib.Core.List.Memᴰ
use mathlib.Core.List.{List, map, Memᴰ}
use borrow.Author.Tests.{ltb-true, ltb-false}
use lib.Dec.{ltb}
use Rattle.laws.proofs.Members.{not_false_true, not_true_false, any_member, any_false, largest_bounds, largest_least}
use Rattle.records.specs.Record.{link}
use Rattle.records.specs.declared.JobRecord.{JobRecord}
use Rattle.records.specs.declared.JobRecord.TheVariants.{L}
use Rattle.jobs.specs.Judge.{Sound}
use Rattle.jobs.specs.Jobs.{numbers, cost, release, deadline, job_at, jobs_in_order}
use Rattle.jobs.specs.Starts.{Permitted, Chain, one, follow, Ring, Earliest}
use Rattle.jobs.proofs.Sound.{link_known, PermittedByNumber, permitted_by_number}
use Rattle.normal.specs.Gaps.{cell, gaps, ring_in}
use Rattle.normal.specs.Windows.{after, earliest_of, latest_of, no_starts}
use Rattle.normal.proofs.Chains.{GapsRight, join, chain_from, chain_positive, ring_shown, gaps_right_lem}

-- a table that normalising does not refuse by 3 to 8
pub record Normalisable (table : List JobRecord) : Type 0 where
  pub sound : Sound table
  pub ringless : ring_in (gaps table) ≡ false
  pub starts : no_starts table (gaps table) ≡ false

-- its square of gaps is right
pub gaps_right : {table : List JobRecord} → Normalisable table → GapsRight table
gaps_right normalisable = gaps_right_lem normalisable.sound normalisable.ringless

module _ {table : List JobRecord} (sound : Sound table) where
  -- a chain ends at a job of the table
  pub chain_to : {i j w : ℕ} → Chain table i j w → Memᴰ j (numbers table)
  chain_to (one l) = (link_known table sound _ l).1
  chain_to (follow l c) = chain_to c

  -- and its sum is at least its first job's cost
  pub chain_cost : {i j w : ℕ} → Chain table i j w → cost table i ≤ w
  chain_cost (one l) = omega arith
  chain_cost (follow l c) = omega arith

-- along a chain permitted starts grow by its sum
pub chain_grows : {table : List JobRecord} → Sound table → (start : ℕ → ℕ) → Permitted table start → {i j w : ℕ} → Chain table i j w → start i + w ≤ start j
chain_grows {table} sound start h c = go c
  where
    go : {i j w : ℕ} → Chain table i j w → start i + w ≤ start j
    go (one {i = i} {j = j} {l = l} m) = omega (arith, ((permitted_by_number table sound start).0 h).links i j l m)
    go (follow {i = i} {k = k} {l = l} m c) = omega (arith, ((permitted_by_number table sound start).0 h).links i k l m, go c)

-- the gap between two jobs, 0 where no chain leads from one to the other
abbrev pub gap : List JobRecord → ℕ → ℕ → ℕ
gap table i j = cell (gaps table) i j

-- the earliest and the latest permitted start of a job, as normalising works them out
abbrev pub earliest : List JobRecord → ℕ → ℕ
earliest table = earliest_of table (gaps table)

abbrev pub latest : List JobRecord → ℕ → ℕ
latest table = latest_of table (gaps table)

module _ {table : List JobRecord} (right : GapsRight table) where
  -- a gap above 0 is the sum along a chain
  pub gap_chain : (i j : ℕ) → 0 < gap table i j → Chain table i j (gap table i j)
  gap_chain i j h = go (gap table i j) refl
    where
      go : (g : ℕ) → gap table i j ≡ g → Chain table i j (gap table i j)
      go zero e = absurd (omega arith)
      go (suc g) e = rw e (right.some i j g e).attained

  -- the gap is at least the sum along any chain
  pub gap_bounds : {i j w : ℕ} → Chain table i j w → w ≤ gap table i j
  gap_bounds {i} {j} {w} c = go (gap table i j) refl
    where
      go : (g : ℕ) → gap table i j ≡ g → w ≤ gap table i j
      go zero e = absurd (right.none i j w e c)
      go (suc g) e = rw e ((right.some i j g e).bounds w c)

  -- two gaps that follow one another are at most the gap over both
  pub gap_joins : (i k j : ℕ) → 0 < gap table i k → 0 < gap table k j → gap table i k + gap table k j ≤ gap table i j
  gap_joins i k j h l = gap_bounds (join table (gap_chain i k h) (gap_chain k j l))

-- a time and the gap after it, where there is one
pub after_gap : (time gap : ℕ) → 0 < gap → after time gap ≡ time + gap
after_gap time zero h = absurd (omega arith)
after_gap time (suc gap) h = refl

-- what a time and the gap after it are at most, where there is a gap
pub after_least : (time gap bound : ℕ) → (0 < gap → time + gap ≤ bound) → after time gap ≤ bound
after_least time zero bound h = omega arith
after_least time (suc gap) bound h = h (omega arith)

module _ (table : List JobRecord) where
  -- the earliest start of a job is at or after its release
  pub release_earliest : (j : ℕ) → release table j ≤ earliest table j
  unfolding earliest_of
  release_earliest j = omega arith

  -- and after each release of a job that leads to it, by the gap
  pub gap_earliest : (i j : ℕ) → Memᴰ i (numbers table) → 0 < gap table i j → release table i + gap table i j ≤ earliest table j
  unfolding earliest_of
  gap_earliest i j m h =
      let b = largest_bounds (map (λ i. after (release table i) (gap table i j)) (numbers table)) (after (release table i) (gap table i j)) (Memᴰ.map (λ i. after (release table i) (gap table i j)) m) in
      omega (arith, after_gap (release table i) (gap table i j) h)

  -- and it is the least time that is
  pub earliest_least : (j time : ℕ) → release table j ≤ time → ((i : ℕ) → Memᴰ i (numbers table) → 0 < gap table i j → release table i + gap table i j ≤ time) → earliest table j ≤ time
  unfolding earliest_of
  earliest_least j time h each = omega (arith, largest_least (map pushed (numbers table)) time (λ x m. below x (Memᴰ.of_map pushed (numbers table) m)))
    where
      pushed : ℕ → ℕ
      pushed i = after (release table i) (gap table i j)

      below : (x : ℕ) → (i : ℕ) × Memᴰ i (numbers table) × (pushed i ≡ x) → x ≤ time
      below x r = omega (arith, after_least (release table r.0) (gap table r.0 j) time (each r.0 r.1), r.2)

module _ {table : List JobRecord} (sound : Sound table) (right : GapsRight table) where
  -- along a gap the earliest starts grow by it
  pub earliest_grows : (i j : ℕ) → 0 < gap table i j → earliest table i + gap table i j ≤ earliest table j
  earliest_grows i j h =
      let first : release table i + gap table i j ≤ earliest table j = gap_earliest table i j (chain_from table sound (gap_chain right i j h)) h in
      let all : earliest table i ≤ earliest table j - gap table i j = earliest_least table i (earliest table j - gap table i j) (omega arith) further in
      omega arith
    where
      further : (k : ℕ) → Memᴰ k (numbers table) → 0 < gap table k i → release table k + gap table k i ≤ earliest table j - gap table i j
      further k m l = let joins = gap_joins right k i j l h in omega (arith, gap_earliest table k j m (omega arith))

  -- a link weighs at most the gap between its jobs
  pub link_gap : (i j l : ℕ) → Memᴰ (L (link i j l)) table → (0 < gap table i j) × (cost table i + l ≤ gap table i j)
  link_gap i j l m = let b = gap_bounds right (one m) in let w = chain_positive table sound (one m) in omega arith

  -- permitted starts are at or after the earliest
  pub earliest_bounds : (start : ℕ → ℕ) → Permitted table start → (j : ℕ) → Memᴰ j (numbers table) → earliest table j ≤ start j
  earliest_bounds start h j m = earliest_least table j (start j) (by_number.windows j m).0 (λ i n l. omega (arith, (by_number.windows i n).0, chain_grows sound start h (gap_chain right i j l)))
    where
      by_number : PermittedByNumber table start
      by_number = (permitted_by_number table sound start).0 h

  -- where 8 is given, nothing is permitted
  pub none_permitted : no_starts table (gaps table) ≡ true → (start : ℕ → ℕ) → Permitted table start → ⊥
  unfolding no_starts jobs_in_order job_at
  none_permitted e start h =
      let late = any_member (λ j. ltb j.deadline (earliest table j.number + j.cost)) (jobs_in_order table) e in
      let at = Memᴰ.of_map (job_at table) (numbers table) late.1 in
      let past : deadline table at.0 < earliest table at.0 + cost table at.0 = ltb-true _ _ (ap (λ j. ltb j.deadline (earliest table j.number + j.cost)) at.2 ∙ late.2) in
      omega (arith, earliest_bounds start h at.0 at.1, ((permitted_by_number table sound start).0 h).windows at.0 at.1)

module _ {table : List JobRecord} (normalisable : Normalisable table) where
  -- where 8 is not given, each job ends by its deadline from its earliest start
  pub earliest_ends : (n : ℕ) → Memᴰ n (numbers table) → earliest table n + cost table n ≤ deadline table n
  unfolding no_starts jobs_in_order job_at
  earliest_ends n m =
      ltb-false (deadline table n) (earliest table n + cost table n)
      (any_false (λ j. ltb j.deadline (earliest table j.number + j.cost)) (jobs_in_order table) normalisable.starts (job_at table n) (Memᴰ.map (job_at table) m))

  -- all jobs at their earliest is permitted
  pub earliest_permitted : Permitted table (earliest table)
  earliest_permitted =
      (permitted_by_number table normalisable.sound (earliest table)).1
      (record {
        windows = λ n m. (release_earliest table n, earliest_ends n m);
        links = λ i j l m. let g = link_gap normalisable.sound (gaps_right normalisable) i j l m in omega (arith, earliest_grows normalisable.sound (gaps_right normalisable) i j g.0);
      })

  -- so `earliest_of` is the earliest permitted start
  pub earliest_right : (j : ℕ) → Memᴰ j (numbers table) → Earliest table j (earliest table j)
  earliest_right j m = record {
    start = earliest table;
    permitted = earliest_permitted;
    attained = refl;
    bounds = λ other h. earliest_bounds normalisable.sound (gaps_right normalisable) other h j m;
  }

-- given no ring, 8 is given exactly when nothing is permitted
pub no_starts_lem : {table : List JobRecord} → Sound table → (Ring table → ⊥) → (no_starts table (gaps table) ≡ true) ↔ ((start : ℕ → ℕ) → Permitted table start → ⊥)
no_starts_lem {table} sound none = (
  none_permitted sound (gaps_right_lem sound ringless),
  λ h. not_false_true _ (λ e. h (earliest table) (earliest_permitted (record { sound = sound; ringless = ringless; starts = e }))),
)
  where
    ringless : ring_in (gaps table) ≡ false
    ringless = not_true_false _ (λ e. none (ring_shown sound e))
