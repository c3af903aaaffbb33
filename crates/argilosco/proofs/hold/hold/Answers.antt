-- `argilosco::hold::hold` meets its contract: each test tells which of 1 to 5, 7 and 8 the definition gives, under the code's ceiling,
-- and past the last of them the code holds the table's jobs and its square of gaps. Assumes nothing.
use Prim.Native.Nat.{ℕ}
use mathlib.Core.Path.{sym, ap, ◌∙◌}
use mathlib.Core.List.{List}
use Rattle.std.proofs.lemmas.Result.{err_from_is_err_and}
use Rattle.jobs.specs.Call.{job_table}
use Rattle.jobs.specs.Arrays.{jobs_of, links_of}
use Rattle.jobs.proofs.Judging.{judged_number}
use Rattle.normal.specs.Arrays.{ceiling}
use Rattle.normal.proofs.Ceiling.{capped_within}
use Rattle.normal.proofs.Answers.{ring_number, starts_number_lem, table_held, held_number}
use Rattle.argilosco.proofs.Passing.{formed}
use Rattle.argilosco.proofs.hold.hold.Goals as goal

pub returns-in_err-judged : goal.returns-in_err-judged
returns-in_err-judged c =
    let p = err_from_is_err_and c.from_residual.result c.from_residual.ensures.1 in
    rw (p.1, p.2) (λ later. sym (judged_number c.args.bytes.now _) ∙ c.in_err-judged.ensures _)

pub returns-then-ring_in : goal.returns-then-ring_in
returns-then-ring_in c later =
    let same = c.in_ok-judged.ensures.0 in
    let well = formed 0 (sym (judged_number c.args.bytes.now 0) ∙ c.in_ok-judged.ensures.1 0) in
    let square = c.gaps.ensures (job_table c.args.bytes.now) (c.load_jobs-jobs.ensures ∙ ap (λ (b : List ℕ). jobs_of (job_table b)) same) (c.load_links.ensures ∙ ap (λ (b : List ℕ). links_of (job_table b)) same) in
    ring_number well square later (sym c.if-ring_in.true ∙ c.ring_in.ensures)

pub no_starts-requires : goal.no_starts-requires
no_starts-requires c =
    let square = c.gaps.ensures _ c.load_jobs-jobs.ensures c.load_links.ensures in
    rw square (capped_within ceiling _)

pub returns-then-no_starts : goal.returns-then-no_starts
returns-then-no_starts c later =
    let same = c.in_ok-judged.ensures.0 in
    let well = formed 0 (sym (judged_number c.args.bytes.now 0) ∙ c.in_ok-judged.ensures.1 0) in
    let jobs = c.load_jobs-jobs.ensures ∙ ap (λ (b : List ℕ). jobs_of (job_table b)) same in
    let square = c.gaps.ensures (job_table c.args.bytes.now) jobs (c.load_links.ensures ∙ ap (λ (b : List ℕ). links_of (job_table b)) same) in
    starts_number_lem well square (sym c.if-ring_in.false ∙ c.ring_in.ensures) later (sym c.if-no_starts.true ∙ c.no_starts.ensures _ jobs)

pub returns : goal.returns
returns c =
    let same = c.in_ok-judged.ensures.0 in
    let well = formed 0 (sym (judged_number c.args.bytes.now 0) ∙ c.in_ok-judged.ensures.1 0) in
    let jobs = c.load_jobs-jobs.ensures ∙ ap (λ (b : List ℕ). jobs_of (job_table b)) same in
    let square = c.gaps.ensures (job_table c.args.bytes.now) jobs (c.load_links.ensures ∙ ap (λ (b : List ℕ). links_of (job_table b)) same) in
    let held = table_held well square (sym c.if-ring_in.false ∙ c.ring_in.ensures) _ jobs (sym c.if-no_starts.false ∙ c.no_starts.ensures _ jobs) in
    (held, held_number well held)
