-- `open` and `try_next` end: a sequence is opened at a measure of 50 for each place left and 49 besides; trying its jobs from k on takes as many less as have been tried.
-- The loop of `try_next` passes over jobs that may not come next: what is still to be looked through and the output stay.
use Rattle.std.proofs.Common.{◌-◌, ◌≡◌, ◌+◌, ◌*◌}
use Rattle.search.specs.State.{given_of, tried, walk}
use Rattle.search.proofs.problem.Problem.+open_try_next.Given as goal

abbrev pub decreases-open : goal.decreases-open
decreases-open l = (48 - l.depth) * 50 + 49

abbrev pub decreases-try_next : goal.decreases-try_next
decreases-try_next l = (48 - l.depth) * 50 + (48 - l.from)

abbrev pub invariant-try_next-loop-k : goal.invariant-try_next-loop-k
invariant-try_next-loop-k l =
    record {
      kept : l.out ≡ l.initial.out;
      value : walk (given_of l.self) l.self.budget (tried (given_of l.self) l.s l.depth l.k) l.opened ≡ walk (given_of l.self) l.self.budget (tried (given_of l.self) l.s l.depth l.from) l.opened;
    }
