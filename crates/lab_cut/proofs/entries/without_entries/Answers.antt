use Rattle.std.proofs.Common.{◌≡◌, sym, subst}
use Rattle.lab_cut.{specs.{Seen.{seeing}, PartOf.{IsPartOf}}, proofs.{MadeParts.{so_made}, SameShape.{entries_part}}}
use Rattle.lab_cut.proofs.entries.without_entries.Goals as goal

pub returns : goal.returns
returns c =
    let h = c.args.history.now in
    let mask = c.args.kept.now in
    let parts = c.in_ok-left_parts.field-0 in
    record {
      part = so_made c.made.result parts (λ part. IsPartOf part h) c.made.ensures (subst (λ p. IsPartOf p h) (sym c.in_ok-left_parts.ensures) (entries_part mask h));
      exact = so_made c.made.result parts (λ part. part ≡ seeing mask h) c.made.ensures c.in_ok-left_parts.ensures;
    }
