-- What judging says of a pass table, in the words of pass tables: its number, what is known of it where none of 1 to 6 holds, and what its size comes to.
use Prim.Native.Nat.{ℕ, suc, ◌<◌, ◌≤◌}
use native.Mathlib.Omega.{arith}
use mathlib.Core.Path.{◌≡◌, refl, sym, ap, ◌∙◌}
use mathlib.Core.Bool.{Bool, true, false, ◌||◌}
use mathlib.Core.List.{List, []}
use Rattle.std.specs.Prelude.{Option, None, Some, slice_get}
use lib.Dec.{ltb}
use lib.ListN.{length}
use borrow.Author.Tests.{lt-ltb, le-ltb, ltb-false}
use Rattle.laws.specs.Lists.{found, any}
use Rattle.laws.proofs.Members.{or_false, false_or, first_fault_none}
use Rattle.laws.proofs.Walking.{next_at, next_member}
use Rattle.records.specs.Outcome.{refuse}
use Rattle.records.specs.Record.{in_passes}
use Rattle.records.specs.Table.{bad_length, read_all, unreadable}
use Rattle.records.specs.declared.Pass.{Pass}
use Rattle.records.specs.declared.PassRecord.{PassRecord}
use Rattle.records.specs.declared.PassRecord.TheVariants.{P, F}
use Rattle.records.proofs.Finding.{found_false, refuse_zero, refuse_rest, refuse_first}
use Rattle.passes.specs.Judge.{is_pass, bad_number, fault3, fault4, fault5}
use Rattle.passes.specs.Expand.{passes_in_order, flows_of, cycle_from, cycle_of, within_limit, job_count, too_large}
use Rattle.passes.specs.Call.{pass_table, passes_number}
use Rattle.passes.specs.Timely.{in_order, AllTimely}
use Rattle.passes.specs.Arrays.{passes_of}
use Rattle.passes.specs.declared.Passes.{Passes}
use Rattle.tables.specs.Rules.{pass_rules}
use Rattle.tables.specs.Table.{read_number}
use Rattle.tables.specs.Judge as judge
use Rattle.passes.proofs.Sound.{Sound, fresh}
use Rattle.passes.proofs.Held.{held_order, held_timely}

-- a pass table that judging finds within the limits is so
pub judged_sound : {table : List PassRecord} → judge.Sound pass_rules table → Sound table
unfolding fault3 fault4 fault5 judge.fault3 judge.fault4 judge.fault5
judged_sound sound = record { three = sound.three; four = sound.four; five = sound.five }

-- the number of a table is that of the refusals that both kinds share, and then of its size
pub judged_number : (bytes : List ℕ) (later : ℕ) → judge.table_number pass_rules in_passes bytes (refuse 6 (too_large (pass_table bytes)) later) ≡ passes_number bytes later
unfolding judge.table_number read_number judge.fault3 judge.fault4 judge.fault5 passes_number pass_table fault3 fault4 fault5
judged_number bytes later = refl

-- where none of the shared refusals holds, the number is that of its size
pub size_number : (bytes : List ℕ) → ((later : ℕ) → judge.table_number pass_rules in_passes bytes later ≡ later) → {large : Bool} → too_large (pass_table bytes) ≡ large → passes_number bytes 0 ≡ refuse 6 large 0
size_number bytes e large = sym (judged_number bytes 0) ∙ e _ ∙ ap (λ t. refuse 6 t 0) large

-- a record that is not at fault by 3 is not so by itself
pub good_alone : (before : List PassRecord) (r : PassRecord) → bad_number before r ≡ false → bad_number [] r ≡ false
good_alone before (P p) e = false_or (or_false (ltb 23 p.number) (any (is_pass p.number) before) e).0 refl
good_alone before (F f) e = refl

-- a pass that stands in a judged table has a number below 24
pub pass_fits : (table : List PassRecord) → judge.Sound pass_rules table → (i : ℕ) {r : PassRecord} → slice_get table i ≡ Some r → (p : Pass) → r ≡ P p → p.number < 24
unfolding fault3
pass_fits table sound i here p is =
    (fresh [] table ((first_fault_none bad_number [] 0 table).0 (judged_sound sound).three) p (rw is at (next_member table i (next_at table i here)))).0

-- what a table is of which none of 1 to 6 holds
pub record Within (bytes : List ℕ) : Type 0 where
  pub one : bad_length bytes ≡ false
  pub two : unreadable (read_all in_passes bytes) ≡ None
  pub sound : Sound (pass_table bytes)
  pub ticks : cycle_of (pass_table bytes) ≤ 48000
  pub jobs : job_count (cycle_of (pass_table bytes)) (passes_in_order (pass_table bytes)) ≤ 48
  pub flows : length (flows_of (pass_table bytes)) ≤ 64

-- such is a table that is given 0
pub accepted : (bytes : List ℕ) → passes_number bytes 0 ≡ 0 → Within bytes
unfolding passes_number too_large
accepted bytes e =
    let table = pass_table bytes in
    let one = refuse_zero 0 (bad_length bytes) e in
    let two = refuse_zero 1 (found (unreadable (read_all in_passes bytes))) one.1 in
    let three = refuse_zero 2 (found (fault3 table)) two.1 in
    let four = refuse_zero 3 (found (fault4 table)) three.1 in
    let five = refuse_zero 4 (found (fault5 table)) four.1 in
    let six = refuse_zero 5 (too_large table) five.1 in
    let sizes = or_false (ltb 48000 (cycle_of table) || ltb 48 (job_count (cycle_of table) (passes_in_order table))) (ltb 64 (length (flows_of table))) six.0 in
    let both = or_false (ltb 48000 (cycle_of table)) (ltb 48 (job_count (cycle_of table) (passes_in_order table))) sizes.0 in
    record {
      one = one.0;
      two = found_false (unreadable (read_all in_passes bytes)) two.0;
      sound = record { three = found_false (fault3 table) three.0; four = found_false (fault4 table) four.0; five = found_false (fault5 table) five.0 };
      ticks = ltb-false 48000 (cycle_of table) both.0;
      jobs = ltb-false 48 (job_count (cycle_of table) (passes_in_order table)) both.1;
      flows = ltb-false 64 (length (flows_of table)) sizes.1;
    }

-- what comes after 1 to 6 decides where none of them holds
pub number_later : (bytes : List ℕ) → passes_number bytes 0 ≡ 0 → (later : ℕ) → passes_number bytes later ≡ later
unfolding passes_number
number_later bytes e later =
    refuse_rest 0 (bad_length bytes) e
    (λ after_one. refuse_rest 1 (found (unreadable (read_all in_passes bytes))) after_one
    (λ after_two. refuse_rest 2 (found (fault3 (pass_table bytes))) after_two
    (λ after-three. refuse_rest 3 (found (fault4 (pass_table bytes))) after-three
    (λ after-four. refuse_rest 4 (found (fault5 (pass_table bytes))) after-four
    (λ after-five. refuse_rest 5 (too_large (pass_table bytes)) after-five
    (λ after-six. refl))))))

-- where one of them holds, it does not matter
pub number_refused : (bytes : List ℕ) (n : ℕ) → passes_number bytes 0 ≡ suc n → (later : ℕ) → passes_number bytes later ≡ suc n
unfolding passes_number
number_refused bytes n e later =
    refuse_first 0 n (bad_length bytes) e
    (λ after_one. refuse_first 1 n (found (unreadable (read_all in_passes bytes))) after_one
    (λ after_two. refuse_first 2 n (found (fault3 (pass_table bytes))) after_two
    (λ after-three. refuse_first 3 n (found (fault4 (pass_table bytes))) after-three
    (λ after-four. refuse_first 4 n (found (fault5 (pass_table bytes))) after-four
    (λ after-five. refuse_first 5 n (too_large (pass_table bytes)) after-five
    (λ after-six. absurd (omega arith)))))))

module _ (table : List PassRecord) {passes : Passes} (held : passes ≡ passes_of table) where
  -- the cycle found of the passes loaded is the table's
  pub cycle_held : {r : Option ℕ} → r ≡ within_limit (cycle_from 1 (in_order passes)) → r ≡ within_limit (cycle_of table)
  unfolding cycle_of
  cycle_held h = h ∙ ap (λ ps. within_limit (cycle_from 1 ps)) (ap in_order held ∙ held_order table)

  -- each of them has a window within its period
  pub timely_held : Sound table → AllTimely passes
  timely_held sound = rw held (held_timely table sound)

  -- the jobs counted of them are the table's
  pub jobs_held : {c r : ℕ} → r ≡ job_count c (in_order passes) → c ≡ cycle_of table → r ≡ job_count (cycle_of table) (passes_in_order table)
  jobs_held {c} h e = h ∙ ap (job_count c) (ap in_order held ∙ held_order table) ∙ ap (λ c. job_count c (passes_in_order table)) e

module _ (table : List PassRecord) where
  -- 6: a cycle over 48,000 ticks
  pub cycle_large : 48000 < cycle_of table → too_large table ≡ true
  unfolding too_large
  cycle_large h = rw (lt-ltb 48000 (cycle_of table) h)

  -- 6: over 64 F records, whatever cycle and jobs are
  pub flows_large : 64 < length (flows_of table) → too_large table ≡ true
  unfolding too_large
  flows_large h = rw (lt-ltb 64 (length (flows_of table)) h) (last (ltb 48000 (cycle_of table) || ltb 48 (job_count (cycle_of table) (passes_in_order table))))
    where
      last : (b : Bool) → (b || true) ≡ true
      last true = refl
      last false = refl

  module _ (small : cycle_of table ≤ 48000) where
    -- 6: over 48 jobs
    pub jobs_large : 48 < job_count (cycle_of table) (passes_in_order table) → too_large table ≡ true
    unfolding too_large
    jobs_large h = rw (le-ltb 48000 (cycle_of table) small, lt-ltb 48 (job_count (cycle_of table) (passes_in_order table)) h)

    module _ (few : job_count (cycle_of table) (passes_in_order table) ≤ 48) where
      -- none of these
      pub not_large : length (flows_of table) ≤ 64 → too_large table ≡ false
      unfolding too_large
      not_large h = rw (le-ltb 48000 (cycle_of table) small, le-ltb 48 (job_count (cycle_of table) (passes_in_order table)) few, le-ltb 64 (length (flows_of table)) h)
