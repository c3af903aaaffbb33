pub mod Gaps
pub mod Windows
pub mod Normal
pub mod Call
pub mod Arrays
pub mod Chosen
