-- `passes::judge::judge` meets its contract: past the shared refusals the number is that of the table's size, and what was loaded and counted is the table's. Assumes nothing.
use Prim.Native.Nat.{ℕ}
use native.Mathlib.Omega.{arith}
use mathlib.Core.Path.{◌∙◌, sym, ap}
use mathlib.Core.List.{List}
use Rattle.std.proofs.lemmas.Result.{err_from_is_err_and}
use lib.ListN.{length}
use borrow.Author.Tests.{ltb-true, ltb-false}
use Rattle.passes.specs.Expand.{flows_of, cycle_of, too_large}
use Rattle.passes.specs.Call.{pass_table, passes_number}
use Rattle.passes.proofs.Ceiling.{kept_within, none_over}
use Rattle.passes.proofs.Judging.{judged_sound, judged_number, size_number, cycle_held, timely_held, jobs_held, cycle_large, jobs_large, flows_large, not_large}
use Rattle.passes.proofs.judge.judge.Goals as goal

pub returns-in_err-judged : goal.returns-in_err-judged
returns-in_err-judged c =
    let p = err_from_is_err_and c.from_residual.result c.from_residual.ensures.1 in
    rw (p.1, p.2) (sym (judged_number c.args.bytes.now 0) ∙ c.in_err-judged.ensures _)

pub cycle_of-requires : goal.cycle_of-requires
unfolding pass_table
cycle_of-requires c =
    let judged = c.in_ok-judged.judged in
    timely_held (pass_table judged.table.bytes.now) c.load_passes-passes.ensures (judged_sound judged.sound)

pub returns-in_default : goal.returns-in_default
returns-in_default c =
    let table = pass_table c.in_ok-judged.judged.table.bytes.now in
    let over = none_over (cycle_of table) (sym c.in_default.is ∙ cycle_held table c.load_passes-passes.ensures c.cycle_of.ensures) in
    size_number c.args.bytes.now c.in_ok-judged.ensures.1 (ap (λ (bytes : List ℕ). too_large (pass_table bytes)) (sym c.in_ok-judged.ensures.0) ∙ cycle_large table over)

pub invariant_of-plan : goal.invariant_of-plan
unfolding pass_table
invariant_of-plan c =
    let judged = c.in_ok-judged.judged in
    let table = pass_table judged.table.bytes.now in
    let kept = kept_within (cycle_of table) (sym c.in-Some.is ∙ cycle_held table c.load_passes-passes.ensures c.cycle_of.ensures) in
    record { timely = timely_held table c.load_passes-passes.ensures (judged_sound judged.sound); short = omega arith }

pub returns-then-too_many_flows : goal.returns-then-too_many_flows
returns-then-too_many_flows c =
    let table = pass_table c.in_ok-judged.judged.table.bytes.now in
    let over = ltb-true 64 (length (flows_of table)) (sym c.too_many_flows.ensures ∙ c.if-too_many_flows.true) in
    size_number c.args.bytes.now c.in_ok-judged.ensures.1 (ap (λ (bytes : List ℕ). too_large (pass_table bytes)) (sym c.in_ok-judged.ensures.0) ∙ flows_large table over)

pub returns-then-jobs-gt48 : goal.returns-then-jobs-gt48
returns-then-jobs-gt48 c =
    let table = pass_table c.in_ok-judged.judged.table.bytes.now in
    let loaded = c.load_passes-passes.ensures in
    let kept = kept_within (cycle_of table) (sym c.in-Some.is ∙ cycle_held table loaded c.cycle_of.ensures) in
    let jobs = jobs_held table loaded c.job_count-jobs.ensures kept.0 in
    size_number c.args.bytes.now c.in_ok-judged.ensures.1 (ap (λ (bytes : List ℕ). too_large (pass_table bytes)) (sym c.in_ok-judged.ensures.0) ∙ jobs_large table kept.1 (omega (arith, jobs, c.if-jobs-gt48.true)))

pub invariant_of-result : goal.invariant_of-result
invariant_of-result c =
    let bytes = c.in_ok-judged.judged.table.bytes.now in
    let table = pass_table bytes in
    let loaded = c.load_passes-passes.ensures in
    let kept = kept_within (cycle_of table) (sym c.in-Some.is ∙ cycle_held table loaded c.cycle_of.ensures) in
    let jobs = jobs_held table loaded c.job_count-jobs.ensures kept.0 in
    let small = not_large table kept.1 (omega (arith, jobs, c.if-jobs-gt48.false)) (ltb-false 64 (length (flows_of table)) (sym c.too_many_flows.ensures ∙ c.if-too_many_flows.false)) in record {
      accepted = record {
        number = ap (λ (bytes : List ℕ). passes_number bytes 0) c.in_ok-judged.ensures.0
            ∙ size_number c.args.bytes.now c.in_ok-judged.ensures.1 (ap (λ (bytes : List ℕ). too_large (pass_table bytes)) (sym c.in_ok-judged.ensures.0) ∙ small);
        passes = loaded;
        cycle = kept.0;
      };
      counted = jobs;
    }
