use Rattle.lab_printing.proofs.Common.{◌≡◌, ◌≤◌, ◌-◌, ℕ, suc, Bool, true, false, ap, subst, sym, ◌∙◌, arith, Predicate, deeper, depth_of}
use Rattle.lab_table.specs.PredKinds.{predicate_of}
use Rattle.lab_printing.proofs.fits.+nests_within.Goals as goal

-- no depth is left for a not
none_left : (enclosed : Bool) (d depth n : ℕ) → n ≤ deeper enclosed 0 → (1 ≤ depth - n → ⊥) → deeper enclosed (suc d) ≤ depth → ⊥
none_left true d depth n is none le = absurd (omega arith)
none_left false d depth n is none le = absurd (omega arith)

pub returns-in-None : goal.returns-in-None
returns-in-None t c =
    let taken : c.from.result ≤ deeper c.args.enclosed 0 =
    elim c.args.enclosed as (λ b. c.from.result ≡ mir.Val.bool_byte b → c.from.result ≤ deeper b 0) [ true ↦ λ e. omega arith | false ↦ λ e. omega arith ] c.from.ensures in
    let none : (1 ≤ c.args.depth - c.from.result → ⊥) = λ le. c.in-None.ensures (omega arith) in
    let view : predicate_of c.pred.inside.kind ≡ c.args.pred.now = c.pred.view_is in
    let is = sym view ∙ ap predicate_of c.in-Not.is in
    ((λ e. absurd cc), (λ le. absurd (none_left c.args.enclosed _ c.args.depth c.from.result taken none (subst (λ (p : Predicate). deeper c.args.enclosed (depth_of p) ≤ c.args.depth) is le))))
