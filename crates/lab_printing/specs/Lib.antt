pub mod Printed
pub mod Sink
pub mod Depth
pub mod Limits
pub mod Each
pub mod Ranges
