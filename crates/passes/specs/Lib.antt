pub mod Judge
pub mod Expand
pub mod Call
pub mod Timely
pub mod Arrays
pub mod Ends
