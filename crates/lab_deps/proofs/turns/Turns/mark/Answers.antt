use Rattle.std.{proofs.Common.{◌≡◌, ◌<◌, ◌+◌, ◌*◌, length, get_or, sym, ap, ◌∙◌, subst}, specs.Prelude.{IfSome}}
use Rattle.lab_deps.{specs.{Marks.{turns_marked}, Turns.{AreMarks}}, proofs.MarkedCells.{in_row, in_column, marks_fit, first_marked}}
use Rattle.lab_deps.proofs.turns.Turns.mark.Goals as goal

pub mark_beside-requires-clause-row : goal.mark_beside-requires-clause-row
mark_beside-requires-clause-row c k =
    let t = c.args.self.now in
    subst (λ ns. c.args.reader * c.args.width + get_or ns k 0 * 1 < length c.args.cells.now) (sym c.deref.ensures.value)
    (in_row c.args.width c.args.reader t.most c.args.cells.now c.requires.reach (get_or t.installers.items k 0) (c.requires.most k))

pub mark_beside-requires-clause-column : goal.mark_beside-requires-clause-column
mark_beside-requires-clause-column c k =
    let t = c.args.self.now in
    subst (λ ns. c.args.reader + get_or ns k 0 * c.args.width < length c.args.cells.now) (sym c.deref.ensures.value)
    (in_column c.args.width c.args.reader t.most c.args.cells.now c.requires.reach (get_or t.installers.items k 0) (c.requires.most k))

pub returns-in-None : goal.returns-in-None
returns-in-None c = c.mark_beside.ensures ∙ ap (λ ns. turns_marked c.args.width c.args.reader c.args.place ns c.args.cells.now) c.deref.ensures.value

pub mark_all-requires : goal.mark_all-requires
mark_all-requires c =
    let t = c.args.self.now in
    let are = subst (λ o. IfSome o (λ row. (c.args.place ≡ 0) × AreMarks t.installers.items t.most row.now)) c.in-Some.is (c.marks_for.ensures c.requires.marks) in
    marks_fit c.args.width c.args.reader t.most c.args.cells.now c.requires.reach t.installers.items c.in-Some.marks.now are.1

pub returns-in-Some : goal.returns-in-Some
returns-in-Some c =
    let t = c.args.self.now in
    let are = subst (λ o. IfSome o (λ row. (c.args.place ≡ 0) × AreMarks t.installers.items t.most row.now)) c.in-Some.is (c.marks_for.ensures c.requires.marks) in
    c.mark_all.ensures
    ∙ (first_marked c.args.width c.args.reader t.most t.installers.items c.in-Some.marks.now c.args.cells.now c.requires.most are.1 ∙ ap (λ p. turns_marked c.args.width c.args.reader p t.installers.items c.args.cells.now) (sym are.0))
