use Rattle.std.proofs.Common.{◌≡◌, sym, ◌∙◌}
use Rattle.lab_table.{specs.ValueTests.{kind_tests}, proofs.BlindStatements.{blind_kind}}
use Rattle.lab_table.proofs.statement.Statement.tests_values.Goals as goal

pub returns-in-Select-clause-blind : goal.returns-in-Select-clause-blind
returns-in-Select-clause-blind c off row x y =
    let told : c.where_tests.result ≡ kind_tests c.args.self.now.kind = search in
    blind_kind c.args.self.now.table c.args.self.now.kind (sym told ∙ off) row x y

pub returns-in-Update-clause-blind : goal.returns-in-Update-clause-blind
returns-in-Update-clause-blind c off row x y =
    let told : c.where_tests-in-Update.result ≡ kind_tests c.args.self.now.kind = search in
    blind_kind c.args.self.now.table c.args.self.now.kind (sym told ∙ off) row x y

pub returns-in-Delete-clause-blind : goal.returns-in-Delete-clause-blind
returns-in-Delete-clause-blind c off row x y =
    let told : c.where_tests-in-Delete.result ≡ kind_tests c.args.self.now.kind = search in
    blind_kind c.args.self.now.table c.args.self.now.kind (sym told ∙ off) row x y
