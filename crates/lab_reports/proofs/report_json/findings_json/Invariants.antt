use Rattle.std.{proofs.Common.{◌≡◌, drop}, specs.Prelude.{fold}}
use Rattle.serde_json.specs.{Data.{no_members}, View.{members_view}}
use Rattle.lab_reports.specs.Tree.{with_finding}
use Rattle.lab_reports.proofs.report_json.findings_json.Given as goal

abbrev pub invariant-loop-phenomenon : goal.invariant-loop-phenomenon
invariant-loop-phenomenon l = fold (with_finding l.report) (members_view l.members.entries) (drop l.phenomenon-index l.among) ≡ fold (with_finding l.report) no_members l.among
