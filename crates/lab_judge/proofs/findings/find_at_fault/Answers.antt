use Rattle.lab_judge.proofs.Levels.{read_below, installed_by_writers}
use Rattle.std.proofs.Common.{sym}
use Rattle.lab_judge.proofs.findings.find_at_fault.Goals as goal

pub find_at_read-requires-clause-installed : goal.find_at_read-requires-clause-installed
find_at_read-requires-clause-installed c = installed_by_writers c.args.history.now (c.requires.1 (sym c.if-is_uncommitted_read.ensures))

pub find_at_read-requires-clause-read : goal.find_at_read-requires-clause-read
find_at_read-requires-clause-read c = read_below c.args.history.now c.args.fault c.requires.0 (sym c.if-is_uncommitted_read.ensures)
