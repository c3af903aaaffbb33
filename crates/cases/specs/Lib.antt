pub mod Case
pub mod Starred
pub mod Further
pub mod Edges
