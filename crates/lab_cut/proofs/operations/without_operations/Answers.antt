use Rattle.std.proofs.Common.{◌≡◌, ◌∙◌, None, ap, map}
use Rattle.lab_history.specs.History.{History}
use Rattle.lab_cut.{specs.{Cut.{cut}, Kept.{last_given, all_kept}, Left.{statements, left_statements}, PartOf.{IsPartOf}}, proofs.{Masks.{statements_left}, MadeParts.{so_made}}}
use Rattle.lab_cut.proofs.operations.without_operations.Goals as goal

pub returns : goal.returns
returns c =
    let h = c.args.history.now in
    let mask = c.args.kept.now in
    let parts = c.in_ok-left_parts.field-0 in
    record {
      part = so_made c.made.result parts (λ part. IsPartOf part h) c.made.ensures c.in_ok-left_parts.ensures.part;
      statements = so_made c.made.result parts (λ part. map (λ t. (t.no, statements t)) part.txns ≡ left_statements mask h.txns) c.made.ensures
          (ap (λ (p : History). map (λ t. (t.no, statements t)) p.txns) c.in_ok-left_parts.ensures.exact ∙ statements_left (last_given None (all_kept mask h.txns)) mask h.txns);
      exact = so_made c.made.result parts (λ part. part ≡ cut mask h) c.made.ensures c.in_ok-left_parts.ensures.exact;
    }
