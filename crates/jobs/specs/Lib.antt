pub mod Judge
pub mod Jobs
pub mod Starts
pub mod Call
pub mod Arrays
