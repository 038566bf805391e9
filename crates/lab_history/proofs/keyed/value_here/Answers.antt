use Rattle.std.{proofs.{Common.{◌∙◌, ap, sym, Some, None, cond}, lemmas.Bool.{ltb-true, ltb-false}}, specs.{Option.{option_copied}, Ordering.{is_eq}}}
use Rattle.lab_history.proofs.Halving.{found_nothing, found_entry}
use Rattle.lab_history.proofs.keyed.value_here.Goals as goal

pub returns-in_err-entry : goal.returns-in_err-entry
returns-in_err-entry g c =
    ap option_copied c.from_residual.ensures
    ∙ sym (found_nothing g.met.K.Ord.total c.args.key c.args.entries.now c.args.place c.requires.sorted c.requires.bound c.requires.point
    (ltb-false _ _ (sym c.in_err-entry.ensures.lookup.0)))

pub returns-then-is_eq : goal.returns-then-is_eq
returns-then-is_eq g c =
    sym (found_entry g.met.K.Ord.total c.args.key c.args.entries.now c.args.place c.in_ok-entry.entry.now c.requires.sorted c.requires.bound c.requires.point
    (ltb-true _ _ (sym c.in_ok-entry.ensures.lookup.0)) c.in_ok-entry.ensures.lookup.1
    ∙ ap (λ r. cond (is_eq r) (Some c.in_ok-entry.entry.now.1) None) (sym c.cmp.ensures)
    ∙ ap (λ b. cond b (Some c.in_ok-entry.entry.now.1) None) (sym c.is_eq.ensures ∙ c.if-is_eq.true))

pub returns-else-is_eq : goal.returns-else-is_eq
returns-else-is_eq g c =
    sym (found_entry g.met.K.Ord.total c.args.key c.args.entries.now c.args.place c.in_ok-entry.entry.now c.requires.sorted c.requires.bound c.requires.point
    (ltb-true _ _ (sym c.in_ok-entry.ensures.lookup.0)) c.in_ok-entry.ensures.lookup.1
    ∙ ap (λ r. cond (is_eq r) (Some c.in_ok-entry.entry.now.1) None) (sym c.cmp.ensures)
    ∙ ap (λ b. cond b (Some c.in_ok-entry.entry.now.1) None) (sym c.is_eq.ensures ∙ c.if-is_eq.false))
