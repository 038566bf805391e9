use Rattle.lab_printing.proofs.{Common.{◌≡◌, ◌++◌, drop, printed_rows}, Joined.{followed}}
use Rattle.lab_printing.proofs.row_text.spell_list.Given as goal

abbrev pub invariant-loop-row : goal.invariant-loop-row
invariant-loop-row l =
    l.out.items ++ followed (printed_rows (drop l.row-index l.rest)) ≡ l.initial.out.items ++ followed (printed_rows l.rest)
