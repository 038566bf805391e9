mod NamedCommands
