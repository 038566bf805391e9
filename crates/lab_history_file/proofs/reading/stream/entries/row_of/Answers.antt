use Rattle.std.proofs.Common.{◌≡◌, ◌∷◌, true, sym, ap, subst, ◌∙◌, rules}
use Rattle.json.specs.Token.{Token}
use Rattle.lab_table.specs.{Row.{numbered}, TableName.{is_table_name}}
use Rattle.lab_history_file.{specs.Reads.{KeyTaken}, proofs.MembersSpell.{full_key}}
use Rattle.lab_history_file.proofs.reading.stream.entries.row_of.Goals as goal

pub returns-in_ok-id-in-Two : goal.returns-in_ok-id-in-Two
returns-in_ok-id-in-Two c =
    let old = c.args.cursor.now in
    let new = c.id_of-in-Two.new.cursor in
    let text = c.in_ok-text-in-Two.text.now in
    let table = c.in_ok-table-in-Two.table in
    let id = c.in_ok-id-in-Two.id in
    let same : table ≡ text = search rules in
    let named : is_table_name text ≡ true = search rules in
    let taken =
    full_key old c.text.new.self new table id (c.in_ok-text-in-Two.ensures ∙ ap (λ t. Token.string t ∷ c.text.new.self) (sym same)) (ap is_table_name same ∙ named) c.in_ok-id-in-Two.ensures in
    subst (λ version. KeyTaken version old new (numbered table id)) (sym c.in-Two.is) taken
