-- What judging says of a job table, in the words of job tables: its number, and what is known of its records where none of 1 to 5 holds.
use Prim.Native.Nat.{ℕ, ◌<◌}
use native.Mathlib.Omega.{arith}
use mathlib.Core.Path.{◌≡◌, refl}
use mathlib.Core.Bool.{false}
use mathlib.Core.List.{List, []}
use Rattle.std.specs.Prelude.{Some, slice_get}
use lib.Dec.{ltb}
use Rattle.laws.specs.Lists.{any}
use Rattle.laws.proofs.Walking.{next_at, next_member}
use Rattle.laws.proofs.Members.{or_false, false_or, first_fault_none}
use Rattle.records.specs.Record.{in_jobs}
use Rattle.records.specs.declared.Job.{Job}
use Rattle.records.specs.declared.Link.{Link}
use Rattle.records.specs.declared.JobRecord.{JobRecord}
use Rattle.records.specs.declared.JobRecord.TheVariants.{J, L}
use Rattle.tables.specs.Rules.{job_rules}
use Rattle.tables.specs.Table.{read_number}
use Rattle.tables.specs.Judge as judge
use Rattle.jobs.specs.Judge.{is_job, bad_number, fault3, fault4, fault5, Sound}
use Rattle.jobs.specs.Call.{job_table, jobs_number}
use Rattle.jobs.proofs.Sound.{fresh, link_known, numbers_below}

-- a job table that judging finds within the limits is so
pub judged_sound : {table : List JobRecord} → judge.Sound job_rules table → Sound table
unfolding fault3 fault4 fault5 judge.fault3 judge.fault4 judge.fault5
judged_sound sound = record { three = sound.three; four = sound.four; five = sound.five }

-- the number that judging comes to is that of 1 to 5
pub judged_number : (bytes : List ℕ) (later : ℕ) → judge.table_number job_rules in_jobs bytes later ≡ jobs_number bytes later
unfolding judge.table_number read_number judge.fault3 judge.fault4 judge.fault5 jobs_number job_table fault3 fault4 fault5
judged_number bytes later = refl

-- a record that is not at fault by 3 is not so by itself
pub good_alone : (before : List JobRecord) (r : JobRecord) → bad_number before r ≡ false → bad_number [] r ≡ false
good_alone before (J j) e = false_or (or_false (ltb 47 j.number) (any (is_job j.number) before) e).0 refl
good_alone before (L l) e = refl

module _ (table : List JobRecord) (sound : judge.Sound job_rules table) (i : ℕ) {r : JobRecord} (here : slice_get table i ≡ Some r) where
  -- a job that stands in a judged table has a number below 48
  pub job_fits : (j : Job) → r ≡ J j → j.number < 48
  unfolding fault3
  job_fits j is =
      (fresh [] table ((first_fault_none bad_number [] 0 table).0 (judged_sound sound).three) j (rw is at (next_member table i (next_at table i here)))).0

  -- a link that stands there names two jobs below 48, and one more than its latency fits 16 bits
  pub link_fits : (l : Link) → r ≡ L l → (l.from < 48) × (l.to < 48) × (l.latency < 65535)
  link_fits l is =
      let known = link_known table (judged_sound sound) l (rw is at (next_member table i (next_at table i here))) in
      (numbers_below table l.from known.0, numbers_below table l.to known.1, omega arith)
