mod Setups
mod CasesPrint
mod CasePlays
mod Padding
mod AtLevels
pub mod OneMatrix
pub mod OneTextAt
