pub mod Common
pub mod Tokens
pub mod SameTokens
pub mod BlankTexts
pub mod LongestTokens
pub mod FirstTokens
pub mod Takes
pub mod StatementTaken
pub mod ReadNumbers
pub mod ReadRows
pub mod Numbers
mod Bounds
pub mod AtomParts
pub mod ReadPredicates
pub mod ReadStatements
pub mod Remarks
mod KnownTokens
pub mod StatementText
pub mod PrintedText
pub mod PrintedNumbers
pub mod PrintedTokens
pub mod PrintedPreds
pub mod ReservedWords
pub mod PrintedNames
pub mod PrintedStatements
pub mod StatementRead
pub mod ShallowStatements
pub mod Readings
pub mod FaultKinds
mod StoppedLoops
pub mod GrammarFaults
pub mod OneStatementFault
