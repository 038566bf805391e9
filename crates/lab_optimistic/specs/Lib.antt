pub mod Changes
pub mod Reads
