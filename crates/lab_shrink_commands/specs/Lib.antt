pub mod Answer
pub mod ReadWhole
