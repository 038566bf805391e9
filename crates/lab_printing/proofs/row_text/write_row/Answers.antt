use Rattle.lab_printing.proofs.Common.{refl, arith, append_assoc, to_z-of_z, w64, drop_all}
use Rattle.lab_printing.proofs.row_text.write_row.Goals as goal

pub returns-clause-written : goal.returns-clause-written
returns-clause-written c =
    let back = to_z-of_z {w = w64} {z = c.number.result} (record { sfits = c.number.type_inv }) in
    rw (
      c.write_byte.ensures.written,
      c.write_natural-start.ensures.written,
      c.from.ensures,
      c.number-2.ensures.value,
      c.write_byte-start-3.ensures.written,
      c.write_byte-start-2.ensures.written,
      c.write_number-start.ensures.written,
      back,
      c.number.ensures.value,
      c.write_byte-start.ensures.written,
      drop_all 48 c.args.text.now (omega arith),
      append_assoc,
      append_assoc,
    ) refl
