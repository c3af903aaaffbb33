pub mod Run
pub mod Live
pub mod Tree
pub mod State
pub mod Order
pub mod Call
