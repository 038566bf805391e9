use Rattle.std.{proofs.Common.{sym, subst}}
use Rattle.lab_deps.{specs.{Broken.{is_unlisted, IsUnlisted}, FirstOf.{IsLeastRow}}, proofs.{FirstOf.{value_least}, NamedIds.{among_all}}}
use Rattle.lab_deps.proofs.unlisted.unlisted_row.Goals as goal

pub returns-in-None : goal.returns-in-None
returns-in-None c = subst (IsLeastRow (IsUnlisted c.args.history.now c.args.op.now)) (sym c.first_unlisted.ensures) (value_least (is_unlisted c.args.op.now) c.args.history.now.initial)

pub returns-in-Some : goal.returns-in-Some
returns-in-Some c = among_all c.args.history.now c.args.op.now c.in-Some.numbers.now c.unlisted_among.result c.in-Some.ensures.only c.unlisted_among.ensures
