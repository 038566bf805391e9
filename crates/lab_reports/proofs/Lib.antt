pub mod AsciiTexts
mod ListedValues
pub mod CutTexts
pub mod Paths
pub mod Spans
pub mod WritableTree
pub mod RequiredLevels
mod ViolationNames
