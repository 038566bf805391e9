pub mod Tabulating
