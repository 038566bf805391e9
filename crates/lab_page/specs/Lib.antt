pub mod Tags
pub mod Phrases
pub mod Why
pub mod Whole
pub mod Answer
pub mod Untagged
pub mod Titled
