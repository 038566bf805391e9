use Rattle.std.proofs.Common.{◌≡◌, codes, refl, rules, arith}
use Rattle.lab_history_file.specs.{Fields.{HoldTxn}, FileOf.{outcome_text}}
use Rattle.lab_history_file.proofs.{Gathered.{key_named}, TransactionFields.{no_taken, ops_taken, outcome_taken}}
use Rattle.lab_history_file.proofs.reading.stream.transaction.TxnFieldsFields.read_member.Goals as goal

pub returns-in_ok-no : goal.returns-in_ok-no
returns-in_ok-no c =
    let old = c.args.cursor.now in
    let new = c.txn_no_of.new.cursor in
    let before = c.args.self.now in
    let named : c.args.key.now ≡ codes "no" = search rules in
    key_named 5 (HoldTxn c.args.version) old new before _ c.args.key.now (codes "no") named (no_taken c.args.version old new before _ c.in_ok-no.no c.in_ok-no.ensures c.fill.ensures refl refl)

pub returns-in_ok-ops : goal.returns-in_ok-ops
returns-in_ok-ops c =
    let old = c.args.cursor.now in
    let new = c.ops_of.new.cursor in
    let before = c.args.self.now in
    let named : c.args.key.now ≡ codes "ops" = search rules in
    key_named 5 (HoldTxn c.args.version) old new before _ c.args.key.now (codes "ops") named (ops_taken c.args.version old new before _ c.in_ok-ops.ops c.in_ok-ops.ensures refl c.fill-then-eq-2.ensures refl)

pub returns-in_ok-outcome : goal.returns-in_ok-outcome
returns-in_ok-outcome c =
    let old = c.args.cursor.now in
    let new = c.text.new.self in
    let before = c.args.self.now in
    let named : c.args.key.now ≡ codes "outcome" = search rules in
    let spelled : c.in_ok-text.text.now ≡ outcome_text c.in_ok-outcome.outcome = grind arith in
    key_named 5 (HoldTxn c.args.version) old new before _ c.args.key.now (codes "outcome") named
    (outcome_taken c.args.version old new before _ c.in_ok-text.text.now c.in_ok-outcome.outcome c.in_ok-text.ensures spelled refl refl c.fill-then-eq-3.ensures)
