use Rattle.std.{proofs.Common.{◌≡◌, ◌++◌, drop}, specs.Option.{option_copied}}
use Rattle.lab_compare.specs.Cells.{answers_text}
use Rattle.lab_compare.proofs.cells.put_answers.Given as goal

abbrev pub invariant-loop-event : goal.invariant-loop-event
invariant-loop-event l =
    l.out.items ++ answers_text l.session l.waited (option_copied l.last) (drop l.event-index l.log)
    ≡ l.initial.out.items ++ answers_text l.session l.initial.waited (option_copied l.initial.last) l.log
