-- Refusals 3 to 5 of a pass table, each as the first record at fault. They are judged once all records have been read.
use Rattle.std.specs.Prelude.{ℕ, Bool, List, [], Option}
use Rattle.laws.specs.Lists.{first_fault}
use Rattle.records.specs.declared.PassRecord.{PassRecord}
use Rattle.tables.specs.Rules.{bad_pass_value, pass_rules}
use Rattle.tables.specs.Judge as Judge
use Rattle.tables.specs.Judge.{gives, loose}

-- the record is the pass with this number
abbrev pub is_pass : ℕ → PassRecord → Bool
is_pass = gives pass_rules

-- 3: "a P number over 23, .. or one .. given twice": it repeats that of an earlier record
abbrev pub bad_number : List PassRecord → PassRecord → Bool
bad_number = Judge.bad_number pass_rules

-- 4: "cost 0; period 0; phase plus finish within over period; .. latency over 48,000"
abbrev pub bad_value : PassRecord → Bool
bad_value = bad_pass_value

-- 5: "a flow .. that names itself, or a pass .. not in the table"
abbrev pub loose_flow : List PassRecord → PassRecord → Bool
loose_flow = loose pass_rules

-- 3: the first record at fault
unfoldable pub fault3 : List PassRecord → Option ℕ
fault3 = first_fault bad_number [] 0

-- 4: the first record at fault
unfoldable pub fault4 : List PassRecord → Option ℕ
fault4 = first_fault (λ before r. bad_value r) [] 0

-- 5: the first record at fault
unfoldable pub fault5 : List PassRecord → Option ℕ
fault5 table = first_fault (λ before r. loose_flow table r) [] 0 table
