use Rattle.std.proofs.Common.{Err, ap, sym, subst}
use Rattle.lab_script.specs.Limits.{ScriptPrints}
use Rattle.lab_matrix.specs.Listings.{case_script}
use Rattle.lab_session.proofs.ScriptsPrint.{keeps_depth, keeps_length, keeps_tables}
use Rattle.lab_case_commands.proofs.listing.text_of.Goals as goal

pub unreachable-requires : goal.unreachable-requires
unreachable-requires c =
    let prints : ScriptPrints c.in_ok-script.script = subst ScriptPrints (sym c.in_ok-script.ensures) (c.cases_print.ensures c.args.name) in
    keeps_depth c.in_ok-script.script prints (c.in-Err-TooDeep.ensures.too_deep (ap Err c.in-Err-TooDeep.field-0-is))

pub unreachable-requires-in-Err-TooLong : goal.unreachable-requires-in-Err-TooLong
unreachable-requires-in-Err-TooLong c =
    let prints : ScriptPrints c.in_ok-script.script = subst ScriptPrints (sym c.in_ok-script.ensures) (c.cases_print.ensures c.args.name) in
    keeps_length c.in_ok-script.script prints (c.in-Err-TooLong.ensures.too_long (ap Err c.in-Err-TooLong.field-0-is))

pub unreachable-requires-in-Err-TooManyTables : goal.unreachable-requires-in-Err-TooManyTables
unreachable-requires-in-Err-TooManyTables c =
    let prints : ScriptPrints c.in_ok-script.script = subst ScriptPrints (sym c.in_ok-script.ensures) (c.cases_print.ensures c.args.name) in
    keeps_tables c.in_ok-script.script prints (c.in-Err-TooManyTables.ensures.too_many_tables (ap Err c.in-Err-TooManyTables.field-0-is))
