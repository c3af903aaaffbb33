-- `start_after` meets its contract: with what the links from jobs below i allow in `start`, what the links from i on make of it stays the same. Assumes nothing.
use Rattle.std.proofs.Common.{◌≡◌, ◌<◌, [], get_or}
use Rattle.search.specs.State.{given_of, start_next}
use Rattle.search.proofs.FitLaws.{start_from}
use Rattle.search.proofs.problem.Problem.start_after.Given as goal

abbrev pub invariant-loop-i : goal.invariant-loop-i
invariant-loop-i l =
    record {
      in_range : l.start < 131072;
      value : start_from (get_or l.self.into.now l.k []) l.s.placed l.s.ends l.self.limit l.start l.i ≡ start_next (given_of l.self) l.s l.k l.first;
    }
