pub mod Bytes
pub mod Record
pub mod Table
pub mod Outcome
