use Rattle.std.proofs.Common.{◌≡◌, ◌∙◌, sym, ap, subst}
use Rattle.lab_cut.{specs.{Chosen.{has}, InRows.{is_among, in_rows}, PartOf.{IsPartOf}}, proofs.{MadeParts.{so_made}, SameShape.{rows_part}}}
use Rattle.lab_cut.proofs.rows.with_rows.Goals as goal

pub returns : goal.returns
returns c =
    let h = c.args.history.now in
    let test = is_among c.args.rows.now in
    let same : has c.in_ok-chosen.chosen ≡ test = λ i row. c.in_ok-chosen.ensures row i in
    let parts = c.in_ok-parts.field-0 in
    let exact : parts ≡ in_rows test h = c.in_ok-parts.ensures ∙ ap (λ t. in_rows t h) same in
    record {
      part = so_made c.made.result parts (λ part. IsPartOf part h) c.made.ensures (subst (λ p. IsPartOf p h) (sym exact) (rows_part test h));
      exact = so_made c.made.result parts (λ part. part ≡ in_rows test h) c.made.ensures exact;
    }
