-- What is proved of job tables.
pub mod Computes
pub mod Cases
pub mod Sound
pub mod JobsFirst
pub mod WellFormed
pub mod Arrays
pub mod Links
pub mod Judging
