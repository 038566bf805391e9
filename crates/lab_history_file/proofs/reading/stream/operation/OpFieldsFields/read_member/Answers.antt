use Rattle.std.proofs.Common.{◌≡◌, codes, refl, rules}
use Rattle.lab_history_file.specs.{Fields.{HoldOp}, FileOf.{IsPair, IsValue, IsVersion}}
use Rattle.lab_history_file.proofs.{Gathered.{key_named}, OperationFields.{map_spelled, writes_spelled, rows_taken, statement_taken, view_taken, writes_taken}, OperationsRead.{spells_read}}
use Rattle.lab_history_file.proofs.reading.stream.operation.OpFieldsFields.read_member.Goals as goal

pub returns-in_ok-entries : goal.returns-in_ok-entries
returns-in_ok-entries c =
    let old = c.args.cursor.now in
    let new = c.entries_of.new.cursor in
    let before = c.args.self.now in
    let named : c.args.key.now ≡ codes "rows" = search rules in
    let read = map_spelled (IsPair c.args.version IsValue) 3 old new c.in_ok-entries.entries.items c.new.result c.in_ok-entries.ensures.stand c.in_ok-entries.ensures.rise c.new.ensures in
    key_named 3 (HoldOp c.args.version) old new before _ c.args.key.now (codes "rows") named (rows_taken c.args.version old new before _ c.new.result read c.fill.ensures refl refl refl)

pub returns-in_ok-statement : goal.returns-in_ok-statement
returns-in_ok-statement c =
    let old = c.args.cursor.now in
    let new = c.text.new.self in
    let before = c.args.self.now in
    let named : c.args.key.now ≡ codes "statement" = search rules in
    let spells = spells_read c.args.version c.in_ok-text.text.now c.in_ok-statement.statement c.in_ok-statement.ensures in
    key_named 3 (HoldOp c.args.version) old new before _ c.args.key.now (codes "statement") named
    (statement_taken c.args.version old new before _ c.in_ok-text.text.now c.in_ok-statement.statement c.in_ok-text.ensures spells refl c.fill-then-eq-2.ensures refl refl)

pub returns-in_ok-entries-2 : goal.returns-in_ok-entries-2
returns-in_ok-entries-2 c =
    let old = c.args.cursor.now in
    let new = c.entries_of-then-eq-3.new.cursor in
    let before = c.args.self.now in
    let named : c.args.key.now ≡ codes "view" = search rules in
    let read = map_spelled (IsVersion c.args.version) 3 old new c.in_ok-entries-2.entries.items c.new-then-eq-3.result c.in_ok-entries-2.ensures.stand c.in_ok-entries-2.ensures.rise c.new-then-eq-3.ensures in
    key_named 3 (HoldOp c.args.version) old new before _ c.args.key.now (codes "view") named (view_taken c.args.version old new before _ c.new-then-eq-3.result read refl refl c.fill-then-eq-3.ensures refl)

pub returns-in_ok-entries-3 : goal.returns-in_ok-entries-3
returns-in_ok-entries-3 c =
    let old = c.args.cursor.now in
    let new = c.entries_of-then-eq-4.new.cursor in
    let before = c.args.self.now in
    let named : c.args.key.now ≡ codes "writes" = search rules in
    let read = writes_spelled c.args.version 3 old new c.in_ok-entries-3.entries.items c.new-then-eq-4.result c.in_ok-entries-3.ensures.stand c.in_ok-entries-3.ensures.rise c.new-then-eq-4.ensures in
    key_named 3 (HoldOp c.args.version) old new before _ c.args.key.now (codes "writes") named (writes_taken c.args.version old new before _ c.new-then-eq-4.result read refl refl refl c.fill-then-eq-4.ensures)
