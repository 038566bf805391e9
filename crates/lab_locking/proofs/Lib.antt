mod HeldMatches
mod KnownReaders
mod Runners
mod RowReaders
mod Blocking
