-- `open` and `try_next` meet their contracts: each return is a law of the tree. Assumes nothing.
use Prim.Native.Nat.{◌+◌}
use native.Mathlib.Omega.{arith}
use mathlib.Core.Path.{refl}
use Rattle.std.proofs.Common.{sym, ◌∙◌, rules}
use Rattle.search.proofs.FitLaws.{opens_cost}
use Rattle.search.proofs.TreeLaws.{open_spent, open_full, open_on, next_none, next_stop, next_not, next_on, next_kept, trying_from, answers_same}
use Rattle.search.proofs.problem.Problem.+open_try_next.Goals as goal

pub open-returns-then-opened-self-clause-answers : goal.open-returns-then-opened-self-clause-answers
open-returns-then-opened-self-clause-answers t c = open_spent _ _ _ _ _ _ _ _ c.if-opened-self.true refl (omega (arith, c.if-opened-self.true)) refl

pub open-returns-then-depth-self-clause-answers : goal.open-returns-then-depth-self-clause-answers
open-returns-then-depth-self-clause-answers t c = open_full _ _ _ _ _ _ _ _ c.if-opened-self.false c.if-depth-self.true refl (omega arith) c.write_slots.ensures

pub open-returns-clause-answers : goal.open-returns-clause-answers
open-returns-clause-answers t c = open_on _ _ _ _ _ _ _ _ c.if-opened-self.false (search rules) c.try_next.ensures.answers

pub try_next-open-requires : goal.try_next-open-requires
try_next-open-requires t c =
    let ran = c.place.ensures.by_index c.args.self.now.jobs.now.cost c.requires.have_run (opens_cost _ _ _ _ _ _ _ _ _ _ (sym c.opens_at.ensures ∙ c.in-Some.is)) in
    (search rules, (search rules, (search rules, (search rules, ran))))

pub try_next-returns-in-Nothing-clause-answers : goal.try_next-returns-in-Nothing-clause-answers
try_next-returns-in-Nothing-clause-answers t c =
    let ends = sym c.opens_at.ensures ∙ c.in-Some.is in
    answers_same _ _ _ _ _ _
    (next_on _ _ _ _ _ _ c.loop-k-test.true _ _ ends c.place.ensures.value _ _ _ c.open.ensures.answers _ c.in-Nothing.is ∙ c.loop-k.invariant.value)
    (next_kept _ _ _ _ _ _ c.loop-k-test.true _ _ ends c.place.ensures.value _ _ _ c.open.ensures.answers _ c.in-Nothing.is ∙ c.loop-k.invariant.kept)
    (trying_from _ _ _ _ _ _ (c.loop-k.k + 1) _ _ _ c.try_next.ensures.answers (omega arith))

pub try_next-returns-in_default-open : goal.try_next-returns-in_default-open
try_next-returns-in_default-open t c = record {
  openings_le_budget = search rules;
  answers = answers_same _ _ _ _ _ _ c.loop-k.invariant.value c.loop-k.invariant.kept
      (next_stop _ _ _ _ _ _ c.loop-k-test.true _ _ (sym c.opens_at.ensures ∙ c.in-Some.is) c.place.ensures.value _ _ _ c.open.ensures.answers (search rules));
}

pub try_next-loop-k-preserved : goal.try_next-loop-k-preserved
try_next-loop-k-preserved t c = record {
  kept = c.loop-k.invariant.kept;
  value = next_not _ _ _ _ _ _ c.loop-k-test.true (sym c.opens_at.ensures ∙ c.in_default.is) ∙ c.loop-k.invariant.value;
}

pub try_next-returns-clause-answers : goal.try_next-returns-clause-answers
try_next-returns-clause-answers t c = answers_same _ _ _ _ _ _ c.loop-k.invariant.value c.loop-k.invariant.kept (next_none _ _ _ _ _ _ _ c.loop-k-test.false)
