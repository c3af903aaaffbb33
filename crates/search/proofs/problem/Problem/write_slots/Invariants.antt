-- `write_slots` meets its contract: of the slots those from place i on are left to write. Assumes nothing.
use Rattle.search.proofs.SlotLaws.{SlotsLeft}
use Rattle.search.proofs.problem.Problem.write_slots.Given as goal

abbrev pub invariant-loop-i : goal.invariant-loop-i
invariant-loop-i l = SlotsLeft l.self.jobs.now.cost l.s.order l.s.ends l.self.count l.initial.out l.out l.i
