pub mod Goals
pub mod Smaller
