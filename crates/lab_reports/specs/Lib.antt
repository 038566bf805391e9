pub mod Phenomena
pub mod Violations
pub mod Requirements
pub mod RequirementLaws
pub mod Shortfall
pub mod Tree
pub mod RefusalTree
