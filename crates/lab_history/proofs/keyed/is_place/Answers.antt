use Rattle.std.{proofs.{Common.{◌≤◌, ◌-◌, ◌∙◌, length, ap, sym, arith}, lemmas.List.{get_or_default}}, specs.Ordering.{is_lt}}
use Rattle.lab_history.proofs.{Halving.{place_is}, keyed.is_place.Goals.{else-place-entries-2-via-then-place-entries-2+else-is_lt, else-place-entries-2-via-else-place-entries-2}}
use Rattle.lab_history.proofs.keyed.is_place.Goals as goal

pub returns-then-place-eq0-clause-point : goal.returns-then-place-eq0-clause-point
returns-then-place-eq0-clause-point g c none =
    let es = c.args.entries.now in
    let i = c.args.place in
    place_is g.met.K.Ord.total c.args.key es i c.requires (omega (arith, c.if-place-entries.false))
    (λ d some. absurd (omega (arith, some, c.if-place-eq0.true)))
    (elim c.else-place-entries-2.branch [
      | else-place-entries-2-via-then-place-entries-2+else-is_lt w ↦ λ d l.
          ap (λ e. is_lt (g.K.Ord.cmp e.0 c.args.key)) (get_or_default es i d w.index-entries-place.result l) ∙ (ap is_lt (sym w.cmp.ensures) ∙ (sym w.is_lt.ensures ∙ w.if-is_lt.false))
      | else-place-entries-2-via-else-place-entries-2 w ↦ λ d l. absurd (omega (arith, l, w.if-place-entries-2.false))
    ])

pub returns-else-place-eq0-clause-point : goal.returns-else-place-eq0-clause-point
returns-else-place-eq0-clause-point g c low =
    let es = c.args.entries.now in
    let i = c.args.place in
    let within : i ≤ length es = omega (arith, c.if-place-entries.false) in
    place_is g.met.K.Ord.total c.args.key es i c.requires within
    (λ d some.
    ap (λ e. is_lt (g.K.Ord.cmp e.0 c.args.key)) (get_or_default es (i - 1) d c.index-entries-place-else-place-eq0.result (omega (arith, some, within)))
    ∙ (ap is_lt (sym c.cmp-else-place-eq0.ensures) ∙ (sym c.is_lt-else-place-eq0.ensures ∙ low)))
    (elim c.else-place-entries-2.branch [
      | else-place-entries-2-via-then-place-entries-2+else-is_lt w ↦ λ d l.
          ap (λ e. is_lt (g.K.Ord.cmp e.0 c.args.key)) (get_or_default es i d w.index-entries-place.result l) ∙ (ap is_lt (sym w.cmp.ensures) ∙ (sym w.is_lt.ensures ∙ w.if-is_lt.false))
      | else-place-entries-2-via-else-place-entries-2 w ↦ λ d l. absurd (omega (arith, l, w.if-place-entries-2.false))
    ])
