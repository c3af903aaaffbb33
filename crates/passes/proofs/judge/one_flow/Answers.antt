-- `passes::judge::one_flow` meets its contract: the record's kind says how many flows it is. Assumes nothing.
use native.Mathlib.Omega.{arith}
use mathlib.Core.Path.{◌≡◌, sym, ap, ◌∙◌}
use mathlib.Core.List.{[], ◌∷◌}
use lib.ListN.{length}
use Rattle.records.specs.declared.PassRecord.{PassRecord}
use Rattle.passes.specs.Expand.{flows_of}
use Rattle.passes.proofs.judge.one_flow.Goals as goal
use Rattle.passes.proofs.judge.one_flow.Goals.{in-F, in_default}

pub returns : goal.returns
unfolding flows_of
returns c =
    elim c.match-matches.branch [
      | in-F w ↦
          let one : c.from.result ≡ 1 = rw w.matches-is at c.from.ensures in
          (one ∙ ap (λ (r : PassRecord). length (flows_of (r ∷ []))) (sym w.in-F.is), omega arith)
      | in_default w ↦
          let none : c.from.result ≡ 0 = rw w.matches-is at c.from.ensures in
          (none ∙ ap (λ (r : PassRecord). length (flows_of (r ∷ []))) (sym w.in_default.is), omega arith)
    ]
