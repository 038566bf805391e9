use Rattle.lab_session.proofs.free.play_free.Given as goal

-- the run begins at the level and on the setup of its engine
abbrev pub ghosts-play_from : goal.ghosts-play_from
ghosts-play_from g a = record { level = g.E.Engine.kind a.engine; setup = g.E.Engine.opening a.engine }
