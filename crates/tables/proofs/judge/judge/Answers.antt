-- `tables::judge::judge` meets its contract: each refusal is the lowest that holds, since what was tested before it was found not to hold. Assumes nothing.
use mathlib.Core.Path.{sym, ap, ◌∙◌}
use mathlib.Core.List.{List}
use Rattle.std.specs.Prelude.{ℕ}
use borrow.Author.Rules.{rules}
use Rattle.std.proofs.lemmas.Result.{err_from_is_err_and}
use Rattle.records.specs.Table.{bad_length, decode}
use Rattle.tables.specs.Judge.{fault4, fault5, loose, table_number}
use Rattle.tables.proofs.Judging.{read_refused, three_refused, four_refused, five_refused, none_refused}
use Rattle.tables.proofs.judge.judge.Goals as goal

pub returns-in_err-table : goal.returns-in_err-table
returns-in_err-table g c =
    let p = err_from_is_err_and c.from_residual.result c.from_residual.ensures.1 in
    rw (p.1, p.2) (read_refused g.R.Kind.rules g.R.Readable.reading c.args.bytes.now _ c.in_err-table.ensures)

pub returns-in_default : goal.returns-in_default
returns-in_default g c later =
    let table = c.in_ok-table.table in
    let same = c.in_ok-table.ensures.0 in
    ap (λ (bytes : List ℕ). table_number g.R.Kind.rules g.R.Readable.reading bytes later) (sym same)
    ∙ three_refused g.R.Kind.rules g.R.Readable.reading table.bytes.now (ap bad_length same ∙ c.in_ok-table.ensures.1) table.whole.readable c.in_default.ensures later

pub returns-in_default-first : goal.returns-in_default-first
unfolding fault4
returns-in_default-first g c later =
    let table = c.in_ok-table.table in
    let same = c.in_ok-table.ensures.0 in
    let four = sym (c.first.ensures g.R.Kind.rules.bad_value (λ r t e. search rules)) ∙ c.in_default-first.is in
    ap (λ (bytes : List ℕ). table_number g.R.Kind.rules g.R.Readable.reading bytes later) (sym same)
    ∙ four_refused g.R.Kind.rules g.R.Readable.reading table.bytes.now (ap bad_length same ∙ c.in_ok-table.ensures.1) table.whole.readable c.in-Some.ensures.0 four later

pub returns-in_default-first-2 : goal.returns-in_default-first-2
unfolding fault4 fault5
returns-in_default-first-2 g c later =
    let table = c.in_ok-table.table in
    let same = c.in_ok-table.ensures.0 in
    let four = sym (c.first.ensures g.R.Kind.rules.bad_value (λ r t e. search rules)) ∙ c.in-None.is in
    let five = sym (c.first-2.ensures (loose g.R.Kind.rules (decode g.R.Readable.reading table.bytes.now)) (λ r t e. search rules)) ∙ c.in_default-first-2.is in
    ap (λ (bytes : List ℕ). table_number g.R.Kind.rules g.R.Readable.reading bytes later) (sym same)
    ∙ five_refused g.R.Kind.rules g.R.Readable.reading table.bytes.now (ap bad_length same ∙ c.in_ok-table.ensures.1) table.whole.readable c.in-Some.ensures.0 four five later

pub invariant_of-result : goal.invariant_of-result
unfolding fault4 fault5
invariant_of-result g c =
    let table = decode g.R.Readable.reading c.in_ok-table.table.bytes.now in
    record {
      sound = record {
        three = c.in-Some.ensures.0;
        four = sym (c.first.ensures g.R.Kind.rules.bad_value (λ r t e. search rules)) ∙ c.in-None.is;
        five = sym (c.first-2.ensures (loose g.R.Kind.rules table) (λ r t e. search rules)) ∙ c.in-None-first.is;
      };
    }

pub returns : goal.returns
unfolding fault4 fault5
returns g c =
    let table = c.in_ok-table.table in
    let same = c.in_ok-table.ensures.0 in
    let four = sym (c.first.ensures g.R.Kind.rules.bad_value (λ r t e. search rules)) ∙ c.in-None.is in
    let five = sym (c.first-2.ensures (loose g.R.Kind.rules (decode g.R.Readable.reading table.bytes.now)) (λ r t e. search rules)) ∙ c.in-None-first.is in (
      same,
      λ later. ap (λ (bytes : List ℕ). table_number g.R.Kind.rules g.R.Readable.reading bytes later) (sym same)
          ∙ none_refused g.R.Kind.rules g.R.Readable.reading table.bytes.now (ap bad_length same ∙ c.in_ok-table.ensures.1) table.whole.readable c.in-Some.ensures.0 four five later,
    )
