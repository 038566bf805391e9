use Rattle.std.{proofs.{Common.{sym, ap, ◌∙◌, subst}, lemmas.Option.{IfSome_then}}, specs.Prelude.{Contains}}
use Rattle.lab_table.specs.Statement.{matches}
use Rattle.lab_deps.specs.{EdgesByRow.{Chain}, Turns.{asked, AreKept}}
use Rattle.lab_deps.proofs.versions.Versions.turns.Goals as goal

pub returns : goal.returns
returns c =
    let v = c.self.inside in
    let chain = c.args.self.now in
    let s = c.args.statement.now in
    let row = c.args.row in
    let kept = subst (λ (u : Chain). AreKept v.values.exact u.before v.values.others.items u.items v.kept.items) c.self.view_is c.self.invariant in
    let answers = c.deref-2.ensures.value ∙ (c.in_ok-ask.ensures ∙ ap (λ (u : Chain). asked (matches s row) u.before v.values.others.items) c.self.view_is) in
    IfSome_then c.kept_by.result c.kept_by.ensures
    (λ item (there, same). kept item.now (subst (λ ks. Contains ks item.now) c.deref.ensures.value there) (matches s row) (c.suit.ensures c.if-not-suit.false row) (sym (same ∙ answers)))
