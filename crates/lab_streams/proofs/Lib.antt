pub mod Taken
pub mod ToldFiles
pub mod Unchanged
mod IdleReports
pub mod KeptReports
