use Rattle.lab_script.proofs.{Common.{◌≡◌, ◌≤◌, length, refl, arith, nat_tests, err_from_is_err_and, commands_read, some_left, step_read}, CommandsTaken.{step_short}, StoppedLoops.{item_stops, item_ends, goes_on, some_more, no_more, commands_stop}}
use Rattle.lab_script.proofs.command.commands_into.Goals as goal

pub loop-parser-smaller : goal.loop-parser-smaller
loop-parser-smaller c =
    step_short c.args.room c.loop-parser.commands.items c.loop-parser.parser (c.push_ended_command.new.commands.items, c.push_ended_command.new.parser) c.in_ok-push_ended_command.ensures

pub loop-parser-preserved : goal.loop-parser-preserved
loop-parser-preserved c =
    let i = c.loop-parser.invariant in
    let some : 1 ≤ length c.push_ended_command.new.parser = grind (arith, nat_tests, c.is_done.ensures, c.if-is_done.false) in
    goes_on (step_read c.args.room) some_left i.0 c.loop-parser.commands.items c.push_ended_command.new.commands.items c.loop-parser.parser c.push_ended_command.new.parser c.push_ended_command.new.parser _ i.1 i.2
    c.in_ok-push_ended_command.ensures (some_more c.push_ended_command.new.parser some)
    (step_short c.args.room c.loop-parser.commands.items c.loop-parser.parser (c.push_ended_command.new.commands.items, c.push_ended_command.new.parser) c.in_ok-push_ended_command.ensures)

pub returns-in_err-push_ended_command : goal.returns-in_err-push_ended_command
returns-in_err-push_ended_command c =
    let p = err_from_is_err_and c.from_residual.result c.from_residual.ensures.1 in
    let i = c.loop-parser.invariant in
    rw (p.1, p.2) (commands_stop c.args.room c.in_err-push_ended_command.field-0.0 c.args.parser.now c.push_ended_command.new.parser
    (item_stops (step_read c.args.room) some_left i.0 c.loop-parser.commands.items c.in_err-push_ended_command.field-0.0 c.loop-parser.parser c.push_ended_command.new.parser _ i.1 i.2 c.in_err-push_ended_command.ensures))

pub returns-then-is_done : goal.returns-then-is_done
unfolding commands_read
returns-then-is_done c =
    let i = c.loop-parser.invariant in
    let none : length c.push_ended_command.new.parser ≡ 0 = grind (arith, nat_tests, c.is_done.ensures, c.if-is_done.true) in
    rw (item_ends (step_read c.args.room) some_left i.0 c.loop-parser.commands.items c.push_ended_command.new.commands.items c.loop-parser.parser c.push_ended_command.new.parser _ i.1 i.2
    c.in_ok-push_ended_command.ensures (no_more c.push_ended_command.new.parser none)) refl
