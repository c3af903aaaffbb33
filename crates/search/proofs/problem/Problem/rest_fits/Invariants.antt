-- `rest_fits` meets its contract: with the costs and the largest deadline of the jobs below m that remain, what those from m on make of them stays the same. Assumes nothing.
use Rattle.std.proofs.Common.{◌≡◌, ◌*◌, ◌≤◌}
use Rattle.search.specs.State.{given_of, rest_after, number_or_none}
use Rattle.search.proofs.FitLaws.{rest_from}
use Rattle.search.proofs.problem.Problem.rest_fits.Given as goal

abbrev pub invariant-loop-m : goal.invariant-loop-m
invariant-loop-m l =
    record {
      in_range : l.costs ≤ 65535 * l.m;
      value : rest_from l.self.jobs.now.cost l.self.jobs.now.release l.self.jobs.now.deadline l.self.limit l.placed (number_or_none l.last_job) l.t l.costs l.last l.m ≡ rest_after (given_of l.self) l.placed (number_or_none l.last_job) l.t;
    }
