pub mod Column
pub mod Conditions
pub mod Filed
pub mod Index
