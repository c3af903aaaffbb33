-- What is proved of a table of either kind: the marks of the numbers given, and the number that judging comes to.
pub mod Marks
pub mod Judging
