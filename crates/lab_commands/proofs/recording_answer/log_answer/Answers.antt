use Rattle.std.proofs.Common.{rules}
use Rattle.lab_commands.proofs.recording_answer.log_answer.Goals as goal

pub returns-clause-answer : goal.returns-clause-answer
returns-clause-answer c = record { report = c.in_ok-report.report; judgement = c.in_ok-report.ensures.exact; text_is = search rules; ends = search rules }
