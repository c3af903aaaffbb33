-- One name that opens this crate's definitions and those below it to computation.
use Rattle.records.proofs.Computes.{computes as records}
use Rattle.passes.specs.Judge.{fault3, fault4, fault5}
use Rattle.passes.specs.Expand.{of_pass, pass_at, passes_in_order, flows_of, multiple_from, lcm, cycle_from, cycle_of, instances, instance_of, jobs_from, job_count, first_job, pair_links, links_between, flow_links, expanded, too_large}
use Rattle.passes.specs.Call.{pass_table, passes_number, expanded_bytes, expand_number, expand}

unfoldable pub computes : Unit {0}
unfolding records fault3 fault4 fault5 of_pass pass_at passes_in_order flows_of multiple_from lcm cycle_from cycle_of instances instance_of jobs_from job_count first_job pair_links links_between flow_links expanded too_large pass_table passes_number expanded_bytes expand_number expand
computes = tt
