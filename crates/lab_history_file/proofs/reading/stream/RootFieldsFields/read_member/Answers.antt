use Rattle.std.proofs.Common.{◌≡◌, codes, refl, rules, arith}
use Rattle.lab_history_file.specs.{Fields.{HoldRoot}, FileOf.{IsPair, IsValue, IsInstalled}, FileVersion.{version_number}}
use Rattle.lab_history_file.proofs.{Gathered.{key_named}, OperationFields.{map_spelled}, RootFields.{end_taken, format_taken, initial_taken, installed_taken, txns_taken, version_taken}}
use Rattle.lab_history_file.proofs.reading.stream.RootFieldsFields.read_member.Goals as goal

pub returns-in_ok-entries : goal.returns-in_ok-entries
returns-in_ok-entries c =
    let old = c.args.cursor.now in
    let new = c.entries_of.new.cursor in
    let before = c.args.self.now in
    let named : c.args.key.now ≡ codes "end" = search rules in
    let read = map_spelled (IsPair c.args.version IsValue) 3 old new c.in_ok-entries.entries.items c.from_rising.result c.in_ok-entries.ensures.stand c.in_ok-entries.ensures.rise c.from_rising.ensures in
    key_named 7 (HoldRoot c.args.version) old new before _ c.args.key.now (codes "end") named (end_taken c.args.version old new before _ c.from_rising.result read c.fill.ensures refl refl refl refl refl)

pub returns-else-ne : goal.returns-else-ne
returns-else-ne c =
    let old = c.args.cursor.now in
    let new = c.text.new.self in
    let before = c.args.self.now in
    let named : c.args.key.now ≡ codes "format" = search rules in
    key_named 7 (HoldRoot c.args.version) old new before _ c.args.key.now (codes "format") named (format_taken c.args.version old new before _ c.in_ok-text.field-0.now c.in_ok-text.ensures (search rules) refl refl refl refl refl refl)

pub returns-in_ok-entries-2 : goal.returns-in_ok-entries-2
returns-in_ok-entries-2 c =
    let old = c.args.cursor.now in
    let new = c.entries_of-then-eq-3.new.cursor in
    let before = c.args.self.now in
    let named : c.args.key.now ≡ codes "initial" = search rules in
    let read = map_spelled (IsPair c.args.version IsValue) 3 old new c.in_ok-entries-2.entries.items c.from_rising-then-eq-3.result c.in_ok-entries-2.ensures.stand c.in_ok-entries-2.ensures.rise c.from_rising-then-eq-3.ensures in
    key_named 7 (HoldRoot c.args.version) old new before _ c.args.key.now (codes "initial") named (initial_taken c.args.version old new before _ c.from_rising-then-eq-3.result read refl refl c.fill-then-eq-3.ensures refl refl refl)

pub returns-in_ok-entries-3 : goal.returns-in_ok-entries-3
returns-in_ok-entries-3 c =
    let old = c.args.cursor.now in
    let new = c.entries_of-then-eq-4.new.cursor in
    let before = c.args.self.now in
    let named : c.args.key.now ≡ codes "installed" = search rules in
    let read = map_spelled (IsInstalled c.args.version) 3 old new c.in_ok-entries-3.entries.items c.new.result c.in_ok-entries-3.ensures.stand c.in_ok-entries-3.ensures.rise c.new.ensures in
    key_named 7 (HoldRoot c.args.version) old new before _ c.args.key.now (codes "installed") named (installed_taken c.args.version old new before _ c.new.result read refl refl refl c.fill-then-eq-4.ensures refl refl)

pub returns-in_ok-txns : goal.returns-in_ok-txns
returns-in_ok-txns c =
    let old = c.args.cursor.now in
    let new = c.txns_of.new.cursor in
    let before = c.args.self.now in
    let named : c.args.key.now ≡ codes "transactions" = search rules in
    key_named 7 (HoldRoot c.args.version) old new before _ c.args.key.now (codes "transactions") named
    (txns_taken c.args.version old new before _ c.in_ok-txns.txns c.in_ok-txns.ensures.spelled c.in_ok-txns.ensures.stand c.in_ok-txns.ensures.few refl refl refl refl c.fill-then-eq-5.ensures refl)

pub returns-else-branch-number_of : goal.returns-else-branch-number_of
returns-else-branch-number_of c =
    let old = c.args.cursor.now in
    let new = c.whole.new.self in
    let before = c.args.self.now in
    let named : c.args.key.now ≡ codes "version" = search rules in
    let said : c.in_ok-whole.field-0 ≡ version_number c.args.version = grind arith in
    key_named 7 (HoldRoot c.args.version) old new before _ c.args.key.now (codes "version") named (version_taken c.args.version old new before _ c.in_ok-whole.field-0 c.in_ok-whole.ensures said refl refl refl refl refl refl)
