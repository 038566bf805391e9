pub mod ChainAnswers
pub mod JudgedParts
pub mod JoinAnswers
