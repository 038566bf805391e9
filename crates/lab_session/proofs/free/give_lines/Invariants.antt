use Rattle.std.proofs.Common.{◌≡◌, ◌≤◌, take, length}
use Rattle.lab_session.specs.{Play.{given_lines, commands_of}, Free.{commands_in}}
use Rattle.lab_session.proofs.free.give_lines.Given as goal

-- the session's lines so far
abbrev pub invariant-loop-line : goal.invariant-loop-line
invariant-loop-line g l = record {
  session : l.seat.session ≡ l.session;
  commands : commands_in l.seat.calls ≡ commands_of l.session (given_lines (take l.line-index l.lines));
  counted : l.index ≡ length (commands_in l.seat.calls);
  few : l.index ≤ l.line-index;
}
