-- The text of a page.
use Rattle.std.specs.Prelude.{ℕ, Option, List, ◌++◌}
use Rattle.lab_history.specs.History.{History}
use Rattle.lab_judge.specs.declared.report.Report.{Report}
use Rattle.lab_reports.specs.declared.phenomenon.Phenomenon.{Phenomenon}
use Rattle.lab_overview.specs.Head.{head_text, header_text}
use Rattle.lab_page.specs.Why.{why_text}
use Rattle.lab_overview.specs.Levels.{levels_text}
use Rattle.lab_evidence.specs.Transactions.{transactions_text}
use Rattle.lab_evidence.specs.Rows.{rows_part}
use Rattle.lab_overview.specs.Check.{check_part, report_part, history_part, file_of}
use Rattle.lab_evidence.specs.Scope.{Scope, scope_of}

-- the verdict and what it rests on
unfoldable pub verdict_part : History → Scope → Report → Option Phenomenon → List ℕ → List ℕ → List ℕ
verdict_part h s report asked title picture = head_text h report asked title ++ header_text h report asked title ++ why_text h s report asked picture ++ levels_text h report

-- what it is checked by
unfoldable pub evidence_part : History → Scope → Report → Option Phenomenon → List ℕ
evidence_part h s report asked =
    transactions_text h s ++ rows_part h s ++ check_part report asked ++ report_part report ++ history_part (file_of h)

-- both, where this is shown
unfoldable pub page_with : History → Scope → Report → Option Phenomenon → List ℕ → List ℕ → List ℕ
page_with h s report asked title picture = verdict_part h s report asked title picture ++ evidence_part h s report asked

-- the page of a report on a history, with its picture and what the user says of it
abbrev pub page_text : History → Report → Option Phenomenon → List ℕ → List ℕ → List ℕ
page_text h report asked title picture = page_with h (scope_of h report asked) report asked title picture
