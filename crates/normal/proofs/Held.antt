-- What the code holds of a table that 3 to 8 do not refuse fits: no job's cost is above its deadline, no gap above a last start that it leads to, and each earliest start is a 16-bit number.
-- Chains join jobs of the table, whose earliest starts keep the deadlines; at a number of no job there is only 0.
use Prim.Native.Nat.{ℕ, zero, suc, ◌-◌, ◌<◌, ◌≤◌}
use native.Mathlib.Omega.{arith}
use mathlib.Core.Path.{◌≡◌, refl}
use mathlib.Core.Bool.{true, false}
use mathlib.Core.Logic.{◌⊎◌, inl, inr}
use mathlib.Core.List.{List, [], ◌∷◌, Memᴰ}
use lib.Dec.{eqb}
use lib.ListN.{get_or}
use Rattle.laws.specs.Lists.{any}
use Rattle.laws.proofs.Members.{either, or_false, true_not_false}
use Rattle.records.specs.declared.Job.{Job}
use Rattle.records.specs.declared.JobRecord.{JobRecord}
use Rattle.records.specs.declared.JobRecord.TheVariants.{J, L}
use Rattle.jobs.specs.declared.Jobs.{Jobs}
use Rattle.jobs.specs.Judge.{is_job}
use Rattle.jobs.specs.Jobs.{numbers, of_job, cost, deadline}
use Rattle.jobs.proofs.Sound.{numbers_member, deadline_limit}
use Rattle.normal.specs.Gaps.{Square, cell}
use Rattle.normal.specs.Windows.{earliest_of}
use Rattle.normal.specs.Arrays.{Holds}
use Rattle.normal.proofs.Chains.{chain_from}
use Rattle.normal.proofs.WindowsEarliest.{Normalisable, gaps_right, gap, earliest, gap_chain, chain_to, gap_earliest, earliest_least, earliest_ends}
use Rattle.normal.proofs.NumbersFrom.{cost_of, deadline_of}

-- at a number of no job every value is 0
pub no_value : (value : Job → ℕ) (table : List JobRecord) (n : ℕ) → any (is_job n) table ≡ false → of_job value table n ≡ 0
unfolding of_job
no_value value [] n e = refl
no_value value (J j ∷ table) n e = let both = or_false (eqb j.number n) (any (is_job n) table) e in rw both.0 (no_value value table n both.1)
no_value value (L l ∷ table) n e = no_value value table n e

-- a number below 48 is that of a job, or of none
pub known_or_none : (table : List JobRecord) (n : ℕ) → n < 48 → Memᴰ n (numbers table) ⊎ (any (is_job n) table ≡ false)
known_or_none table n h = go (either (any (is_job n) table))
  where
    go : (any (is_job n) table ≡ true) ⊎ (any (is_job n) table ≡ false) → Memᴰ n (numbers table) ⊎ (any (is_job n) table ≡ false)
    go (inl e) = inl ((numbers_member table n).1 (h, e))
    go (inr e) = inr e

module _ {table : List JobRecord} {jobs : Jobs} {square : Square} (held : Holds table jobs square) where
  -- the table is one that normalising does not refuse
  pub normalisable : Normalisable table
  normalisable = record { sound = held.sound; ringless = held.ringless; starts = held.starts }

  -- no cost is above the deadline
  pub cost_fits : (n : ℕ) → n < 48 → get_or jobs.cost n 0 ≤ get_or jobs.deadline n 0
  cost_fits n h = rw (cost_of table held.jobs_held n h, deadline_of table held.jobs_held n h) (go (known_or_none table n h))
    where
      go : Memᴰ n (numbers table) ⊎ (any (is_job n) table ≡ false) → cost table n ≤ deadline table n
      go (inl m) = omega (arith, earliest_ends normalisable n m)
      go (inr e) = omega (arith, no_value (λ j. j.cost) table n e)

  -- a gap joins two jobs of the table
  pub gap_known : (i j : ℕ) → 0 < gap table i j → Memᴰ i (numbers table) × Memᴰ j (numbers table)
  gap_known i j h = let chain = gap_chain (gaps_right normalisable) i j h in (chain_from table held.sound chain, chain_to held.sound chain)

  -- and is at most the last start of the job it leads to
  pub gap_fits : (i j : ℕ) → j < 48 → cell square i j ≤ get_or jobs.deadline j 0 - get_or jobs.cost j 0
  gap_fits i j h = rw (held.gaps_held, cost_of table held.jobs_held j h, deadline_of table held.jobs_held j h) (go (gap table i j) refl)
    where
      go : (g : ℕ) → gap table i j ≡ g → gap table i j ≤ deadline table j - cost table j
      go zero e = omega arith
      go (suc g) e =
          let positive : 0 < gap table i j = omega arith in
          let known = gap_known i j positive in
          omega (arith, gap_earliest table i j known.0 positive, earliest_ends normalisable j known.1)

  -- each earliest start is by the deadline limit
  pub earliest_fits : (n : ℕ) → n < 48 → earliest_of table square n ≤ 48000
  earliest_fits n h = rw held.gaps_held (go (known_or_none table n h))
    where
      go : Memᴰ n (numbers table) ⊎ (any (is_job n) table ≡ false) → earliest table n ≤ 48000
      go (inl m) = omega (arith, earliest_ends normalisable n m, deadline_limit table held.sound n m)
      go (inr e) = earliest_least table n 48000 (omega (arith, no_value (λ j. j.release) table n e)) (λ i m p. absurd (true_not_false ((numbers_member table n).0 (gap_known i n p).1).1 e))
