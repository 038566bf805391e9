pub mod Common
pub mod DistinctRows
mod CommandsTaken
mod SetupTaken
pub mod ReadSetup
pub mod ReadCommands
pub mod ScriptLines
pub mod TextLines
pub mod FirstFault
pub mod LongTexts
pub mod StatementLines
pub mod RemainingTranscript
pub mod BrokenLimits
pub mod PrintedSetups
pub mod PrintedScripts
mod LineFaults
pub mod OneFault
pub mod FewTables
mod StoppedLoops
