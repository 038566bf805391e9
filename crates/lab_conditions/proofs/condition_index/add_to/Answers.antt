use Rattle.std.proofs.{Common.{◌≡◌, ◌<◌, ◌||◌, ℕ, List, false, [], ◌∷◌, length, get_or, ap, subst, ◌∙◌}, lemmas.{Result.{on_ok_weaker}, List.Folds.{list_any-append}}}
use Rattle.lab_conditions.specs.{Conditions.{Conditions}, Index.{any_selects, table_selects}}
use Rattle.lab_conditions.proofs.{Ors.{or_comm}, Tables.{any_more, first_of_table}}
use Rattle.lab_conditions.proofs.condition_index.add_to.Goals as goal

pub returns-in-Some : goal.returns-in-Some
returns-in-Some c =
    let place = c.in-Some.place in
    let t = c.index_mut-table.result.now in
    let table = c.args.statement.now.table in
    let within = subst (λ ts. place < length ts) c.deref.ensures.value c.in-Some.ensures.0 in
    let named = ap (λ x. x.0) c.index_mut-table.ensures.value ∙ subst (λ ts. (get_or ts place t).0 ≡ table) c.deref.ensures.value (c.in-Some.ensures.1 t) in
    on_ok_weaker c.add.result
    (λ more row value. any_more row value c.args.tables.now.items place t c.add.new.self table c.args.statement.now.kind within c.index_mut-table.ensures.value named more)
    c.add.ensures

pub returns : goal.returns
returns c = λ row value.
    let tables = c.args.tables.now.items in
    let statement = c.args.statement.now in
    let added : List ℕ × Conditions = (statement.table, c.add-2.new.self) in
    ap (λ ts. any_selects ts row value) c.in_ok-push.ensures.items ∙ list_any-append (table_selects row value) tables (added ∷ [])
    ∙ ap (λ b. any_selects tables row value || b) (or_comm (table_selects row value added) false ∙ first_of_table row value statement.table c.new-conditions.result c.add-2.new.self statement.kind c.new-conditions.ensures c.in_ok-add.ensures)
