-- `jobs::load::add_job` meets its contract: the four stores are the job in front. Assumes nothing.
use Rattle.jobs.proofs.Arrays.{jobs_more}
use Rattle.jobs.proofs.load.add_job.Goals as goal

pub returns : goal.returns
returns c before e = rw c.from-number.ensures (jobs_more c.args.job before c.requires e)
