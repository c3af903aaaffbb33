pub mod Promise
pub mod Answer
pub mod Calls
pub mod Print
