-- `search` meets its contract: the test of all jobs says whether the empty sequence is live, and opening it looks through the whole tree. Assumes nothing.
use Rattle.std.proofs.Common.{refl}
use Rattle.search.proofs.DoorLaws.{door_dead, door_live}
use Rattle.search.proofs.search.Goals as goal

pub returns-then-not-rest_fits : goal.returns-then-not-rest_fits
returns-then-not-rest_fits c table sound is links =
    door_dead table sound _ _ _ _ _ _ is c.absent-placed.ensures c.limit_of.ensures.0 c.rest_fits.ensures c.if-not-rest_fits.true

pub returns : goal.returns
returns c table sound is links =
    door_live table sound _ _ _ _ _ _ is c.absent-placed.ensures c.limit_of.ensures.0 c.rest_fits.ensures _ _ _ _ _ links c.count_jobs.ensures.1 refl c.if-not-rest_fits.false c.open.ensures.answers
