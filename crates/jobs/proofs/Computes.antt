-- One name that opens this crate's definitions and those below it to computation.
use Rattle.records.proofs.Computes.{computes as records}
use Rattle.jobs.specs.Judge.{fault3, fault4, fault5}
use Rattle.jobs.specs.Jobs.{numbers, of_job, job_at, jobs_in_order, strongest}
use Rattle.jobs.specs.Call.{job_table, jobs_number}

unfoldable pub computes : Unit {0}
unfolding records fault3 fault4 fault5 numbers of_job job_at jobs_in_order strongest job_table jobs_number
computes = tt
