-- `write_slots` meets its contract: of the slots those from place i on are left to write. Assumes nothing.
use Rattle.search.proofs.SlotLaws.{slots_first}
use Rattle.search.proofs.problem.Problem.write_slots.Goals as goal

pub loop-i-init : goal.loop-i-init
loop-i-init c = slots_first _ _ _ _ _ c.requires.room
