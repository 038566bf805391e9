pub mod Whole
pub mod WholeRuns
pub mod WholeEdges
pub mod WholeFindings
