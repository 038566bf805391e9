mod GreatestNumbers
mod BatchParts
mod PlayRefusals
pub mod OneTranscript
pub mod OneRun
mod OneReport
mod WrittenRefusals
mod BatchWindows
mod PutInTurn
