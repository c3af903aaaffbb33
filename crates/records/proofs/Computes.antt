-- One name that opens this crate's definitions to computation: `unfolding computes` unfolds all that the line under it names.
use Rattle.records.specs.Record.{read_pass, read_flow, read_job, read_link, read_slot, in_passes, in_jobs, in_schedule, pass_bytes, job_bytes, slot_bytes}
use Rattle.records.specs.Table.{bad_length, reads, read_all, unreadable, readable, decode, encode}

unfoldable pub computes : Unit {0}
unfolding read_pass read_flow read_job read_link read_slot in_passes in_jobs in_schedule pass_bytes job_bytes slot_bytes bad_length reads read_all unreadable readable decode encode
computes = tt
