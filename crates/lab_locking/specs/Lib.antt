pub mod Matches
pub mod Reads
