-- The names that most proofs cite, passed on from one place.
pub use Rattle.std.proofs.Common.{Bool, List, Result, [], ap, append-nil, append_assoc, arith, drop, false, length, length-append, map, refl, replicate, rules, subst, suc, sym, to_z-of_z, true, w64, ℕ, ◌*◌, ◌++◌, ◌+◌, ◌-◌, ◌<◌, ◌∙◌, ◌∷◌, ◌≡◌, ◌≤◌}
pub use Rattle.std.proofs.lemmas.{Fmt.{length-decimal-le}, Grind.{common_steps}, List.{drop_all, drop_more, length-map, length-replicate, map-append, replicate-append-replicate}, Result.{IfOk-equal}}
pub use Rattle.std.specs.{Fmt.{decimal}, Prelude.{IsTrue, OnOk, codes, ◌↔◌}}
pub use Rattle.lab_printing.specs.{Depth.{deeper, depth_of}, Each.{Each}, Printed.{joined, printed_kind, printed_row, printed_rows, printed_where, rows_or}}
pub use Rattle.lab_table.specs.Predicate.{Predicate, parts}
