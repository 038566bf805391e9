use Rattle.std.proofs.Common.{◌≡◌, [], take}
use Rattle.lab_session.specs.Play.{given_lines, commands_of}
use Rattle.lab_session.proofs.free.has_lines.Given as goal

-- none so far
abbrev pub invariant-loop-line : goal.invariant-loop-line
invariant-loop-line l = commands_of l.session (given_lines (take l.line-index l.lines)) ≡ []
