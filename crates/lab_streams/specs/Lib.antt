pub mod Input
pub mod Status
pub mod Reports
pub mod HistoryFile
pub mod ReadWhole
