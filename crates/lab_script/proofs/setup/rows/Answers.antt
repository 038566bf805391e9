use Rattle.lab_script.proofs.{Common.{length, suc, refl, arith, err_from_is_err_and, after, row_onto_read, rows_read}, StoppedLoops.{item_stops, item_ends, goes_on}}
use Rattle.lab_statement.specs.declared.token.Token.TheVariants as token
use Rattle.lab_script.proofs.setup.rows.Goals as goal

pub loop-table-init : goal.loop-table-init
unfolding rows_read
loop-table-init c = (suc (length c.args.parser.now), omega arith, rw c.new-table.ensures refl)

pub loop-table-preserved : goal.loop-table-preserved
loop-table-preserved c =
    let i = c.loop-table.invariant in
    let found = c.if-not-took.ensures in
    let row = c.in_ok-row_onto.ensures in
    goes_on row_onto_read (after token.Comma) i.0 c.loop-table.table c.row_onto.new.table c.loop-table.parser c.row_onto.new.parser c.took.new.self
    (rows_read c.args.parser.now) i.1 i.2 row.reads found.gives (omega (arith, row.shorter, found.shorter))

pub returns-in_err-row_onto : goal.returns-in_err-row_onto
returns-in_err-row_onto c =
    let p = err_from_is_err_and c.from_residual.result c.from_residual.ensures.1 in
    let i = c.loop-table.invariant in
    rw (p.1, p.2) (item_stops row_onto_read (after token.Comma) i.0 c.loop-table.table c.in_err-row_onto.field-0.0 c.loop-table.parser c.row_onto.new.parser (rows_read c.args.parser.now) i.1 i.2 c.in_err-row_onto.ensures.reads)

pub returns-then-not-took : goal.returns-then-not-took
returns-then-not-took c =
    let i = c.loop-table.invariant in
    let none = c.if-not-took.ensures.gives in
    rw none.1 (item_ends row_onto_read (after token.Comma) i.0 c.loop-table.table c.row_onto.new.table c.loop-table.parser c.row_onto.new.parser (rows_read c.args.parser.now) i.1 i.2 c.in_ok-row_onto.ensures.reads none.0)
