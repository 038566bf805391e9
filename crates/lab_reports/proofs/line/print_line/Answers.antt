use Rattle.std.{proofs.{Common.{refl, sym, subst}, lemmas.Str.{IsUtf8-append, IsUtf8-from_ascii}}, specs.Prelude.{IsUtf8}}
use Rattle.lab_printing.specs.Printed.{newline}
use Rattle.lab_reports.proofs.AsciiTexts.{ascii_by}
use Rattle.lab_reports.proofs.line.print_line.Goals as goal

pub returns-clause-utf8 : goal.returns-clause-utf8
returns-clause-utf8 c =
    subst IsUtf8 (sym c.in_ok-push.ensures.items)
    (IsUtf8-append c.in_ok-line.line.items newline c.in_ok-line.ensures.utf8 (IsUtf8-from_ascii newline (ascii_by newline refl)))
