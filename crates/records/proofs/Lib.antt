-- What is proved of the records: 16-bit numbers and their bytes, one record and its twelve bytes, a table and its records, and the functions that hold a reader.
pub mod Words
pub mod Codec
pub mod Tables
pub mod Writing
pub mod WritingLoop
pub mod Overwriting
pub mod Reading
pub mod Finding
pub mod Computes
