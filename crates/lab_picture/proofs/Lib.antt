pub mod OnePicture
mod LeastOfPairs
mod TextLines
mod LineSteps
mod KeptRows
mod DrawnEnds
mod DrawnCounts
mod LowHeadings
mod DrawnHeights
