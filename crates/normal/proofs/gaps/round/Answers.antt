-- `normal::gaps::round` meets its contract. The loop's invariant: the rows before this one have the chains through k, and the others are as they were. Assumes nothing.
use Prim.Native.Nat.{◌≤◌}
use mathlib.Core.Path.{◌∙◌}
use mathlib.Core.List.{[]}
use native.Mathlib.Omega.{arith}
use borrow.Author.Rules.{rules}
use lib.ListN.{get_or}
use Rattle.laws.proofs.Lists.{every_get_d}
use Rattle.normal.specs.Arrays.{ceiling, RowWithin}
use Rattle.normal.proofs.RoundLoop.{row_of, row_now, row_left, row_taken, rows_done}
use Rattle.normal.proofs.gaps.round.Goals as goal
use Rattle.normal.proofs.gaps.round.Goals.{then-a-ne0, else-a-ne0}

pub widened_row-requires : goal.widened_row-requires
widened_row-requires c =
    let a = c.args in
    let l = c.loop-row in
    let within : RowWithin ceiling (get_or l.row-items l.row-index []) = rw (row_now ceiling a.k a.square.now c.requires.1 l.row-index l.row-items (omega arith) l.invariant) (row_of ceiling a.k a.square.now c.requires.1 l.row-index) in
    let cells = every_get_d (λ x. x ≤ ceiling) (get_or l.row-items l.row-index []) 0 (omega arith) within in
    let through = every_get_d (λ x. x ≤ ceiling) (get_or a.square.now a.k []) 0 (omega arith) (row_of ceiling a.k a.square.now c.requires.1 a.k) in
    (search rules, cells a.k, λ j. (cells j, through j))

pub loop-row-preserved : goal.loop-row-preserved
loop-row-preserved c =
    let a = c.args in
    let l = c.loop-row in
    elim c.if-a-ne0.branch [
      | then-a-ne0 w ↦ w.row-items-is ∙ row_taken ceiling a.k a.square.now c.requires.1 l.row-index l.row-items (omega arith) l.invariant w.widened_row.result w.if-a-ne0.true w.widened_row.ensures
      | else-a-ne0 w ↦ w.row-items-is ∙ row_left ceiling a.k a.square.now c.requires.1 l.row-index l.row-items (omega arith) l.invariant w.if-a-ne0.false
    ]

pub returns : goal.returns
returns c = c.loop-row.invariant ∙ rows_done ceiling c.args.k c.args.square.now c.loop-row.row-index (omega arith)
