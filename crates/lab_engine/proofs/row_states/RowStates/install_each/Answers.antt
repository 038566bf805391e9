use Rattle.lab_engine.proofs.{Common.{ap, chain_in, cond, drop, drop_more, eq-eqb, list_any, longer, None, pending_in, refl, row_eq, sym, ◌&&◌, ◌+◌, ◌==◌, ◌∙◌, ◌∷◌, ◌≡◌}, RowWalks.{let_go, installed_once}}
use Rattle.lab_engine.proofs.row_states.RowStates.install_each.Goals as goal

pub loop-row-preserved : goal.loop-row-preserved
loop-row-preserved c =
    let left : c.row-item.result ∷ drop (c.loop-row.row-index + 1) c.args.rows.now ≡ drop c.loop-row.row-index c.args.rows.now
    = ap (λ r. r ∷ drop (c.loop-row.row-index + 1) c.args.rows.now) c.row-item.is ∙ sym (drop_more c.args.rows.now c.loop-row.row-index c.row-item.result c.loop-row-test.true) in
    record {
      chain = λ row.
          installed_once c.args.by c.args.place (row_eq row c.row-item.result) (list_any (row_eq row) (drop (c.loop-row.row-index + 1) c.args.rows.now)) (c.args.session == c.args.session)
          (pending_in c.loop-row.self row c.args.session) (pending_in c.install.new.self row c.args.session) (chain_in c.loop-row.self row) (chain_in c.install.new.self row)
          (eq-eqb c.args.session c.args.session refl) (c.install.ensures.chain row) (c.install.ensures.pending row c.args.session)
          ∙ ap (λ rows. cond (list_any (row_eq row) rows) (longer c.args.by c.args.place (pending_in c.loop-row.self row c.args.session) (chain_in c.loop-row.self row)) (chain_in c.loop-row.self row)) left
          ∙ c.loop-row.invariant.chain row;
      pending = λ row n.
          ap (λ v. cond (list_any (row_eq row) (drop (c.loop-row.row-index + 1) c.args.rows.now) && n == c.args.session) None v) (c.install.ensures.pending row n)
          ∙ let_go (row_eq row c.row-item.result) (list_any (row_eq row) (drop (c.loop-row.row-index + 1) c.args.rows.now)) (n == c.args.session) (pending_in c.loop-row.self row n)
          ∙ ap (λ rows. cond (list_any (row_eq row) rows && n == c.args.session) None (pending_in c.loop-row.self row n)) left
          ∙ c.loop-row.invariant.pending row n;
    }
