use Rattle.lab_printing.proofs.{Common.{◌≡◌, ◌∷◌, ◌++◌, [], ap, sym, ◌∙◌, arith, drop, codes, common_steps, drop_all, printed_row, printed_rows, rows_or}, Joined.{all_joined, followed}}
use Rattle.lab_printing.proofs.row_text.spell_list.Goals as goal

pub returns : goal.returns
returns c =
    let first = c.in-Some.first.now in
    let rest = c.in-Some.rest.now in
    let start = c.args.out.now.items in
    let whole : c.args.rows.now ≡ first ∷ rest = c.in-Some.ensures.cases.0 in
    let none : printed_rows (drop c.loop-row.row-index rest) ≡ [] = ap printed_rows (drop_all c.loop-row.row-index rest c.loop-row-test.false) in
    let put : c.spell_row.new.out.items ≡ start ++ printed_row first.0.id first.1 = grind (arith, common_steps) in
    all_joined start _ (printed_row first.0.id first.1) (printed_rows rest) _ none (c.loop-row.invariant ∙ ap (λ text. text ++ followed (printed_rows rest)) put)
    ∙ ap (λ rows. start ++ rows_or (codes "none") rows) (sym whole)
