use Rattle.std.proofs.{Common.{◌++◌, drop, filter}, lemmas.{List.{drop_all}, Result.{IfOk-equal}}}
use Rattle.lab_history.proofs.Appended.{appended}
use Rattle.lab_drawing.{specs.Nicknames.{has_form, in_parentheses}, proofs.SaidNames.{all_said}}
use Rattle.lab_drawing.proofs.nicknames.put_those_of.Goals as goal

pub returns : goal.returns
returns c =
    let among = c.args.among.now in
    let test = has_form c.args.history.now c.args.walk.now in
    let text = c.loop-nickname.out.items in
    let end = c.loop-nickname.end.now in
    let start = c.args.out.now.items in
    IfOk-equal c.extend_from_slice-2.result c.extend_from_slice-2.new.self.items (text ++ end) (start ++ in_parentheses (filter test among))
    (appended _ _ _ _ c.extend_from_slice-2.ensures.items)
    (all_said text c.loop-nickname.lead.now end start test among (drop c.loop-nickname.nickname-index among) (drop_all c.loop-nickname.nickname-index among c.loop-nickname-test.false)
    c.loop-nickname.invariant)
