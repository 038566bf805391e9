pub mod LevelName
