-- `jobs::load::no_jobs` meets its contract: the arrays of no records are all false and 0, by computation. Assumes nothing.
use mathlib.Core.Path.{refl}
use Rattle.jobs.specs.Jobs.{of_job}
use Rattle.jobs.specs.Arrays.{jobs_of}
use Rattle.jobs.proofs.load.no_jobs.Goals as goal

pub returns : goal.returns
unfolding jobs_of of_job
returns c = refl
