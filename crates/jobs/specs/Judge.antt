-- Refusals 3 to 5 of a job table, each as the first record at fault. They are judged once all records have been read.
use Rattle.std.specs.Prelude.{ℕ, Bool, List, [], ◌≡◌, Option, None}
use Rattle.laws.specs.Lists.{first_fault}
use Rattle.records.specs.declared.JobRecord.{JobRecord}
use Rattle.tables.specs.Rules.{bad_job_value, job_rules}
use Rattle.tables.specs.Judge as Judge
use Rattle.tables.specs.Judge.{gives, loose}

-- the record is the job with this number
abbrev pub is_job : ℕ → JobRecord → Bool
is_job = gives job_rules

-- 3: "a J number over 47, or one .. given twice": it repeats that of an earlier record
abbrev pub bad_number : List JobRecord → JobRecord → Bool
bad_number = Judge.bad_number job_rules

-- 4: "cost 0; .. deadline over 48,000; latency over 48,000"
abbrev pub bad_value : JobRecord → Bool
bad_value = bad_job_value

-- 5: "a .. link that names itself, or a .. job not in the table"
abbrev pub loose_link : List JobRecord → JobRecord → Bool
loose_link = loose job_rules

-- 3: the first record at fault
unfoldable pub fault3 : List JobRecord → Option ℕ
fault3 = first_fault bad_number [] 0

-- 4: the first record at fault
unfoldable pub fault4 : List JobRecord → Option ℕ
fault4 = first_fault (λ before r. bad_value r) [] 0

-- 5: the first record at fault
unfoldable pub fault5 : List JobRecord → Option ℕ
fault5 table = first_fault (λ before r. loose_link table r) [] 0 table

-- a job table within the limits: none of 3, 4 and 5 holds of it
pub record Sound (table : List JobRecord) : Type 0 where
  pub three : fault3 table ≡ None
  pub four : fault4 table ≡ None
  pub five : fault5 table ≡ None
