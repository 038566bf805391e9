-- An entry of a sorted list has the value of its row.
use Rattle.std.{proofs.Common.{◌≡◌, ℕ, T, Some, List}, specs.{Prelude.{slice_get}, FinMap.{find, is_sorted}}}
use Rattle.lab_table.{specs.Row.{Row, row_cmp}, proofs.Members.{member_at}}
use Rattle.lab_deps.proofs.Installers.{member_found}

module _ {A : Type 0} where
  -- an entry's row is found with its value
  pub at_entry : (es : List (Row × A)) (i : ℕ) (e : Row × A) → T (is_sorted row_cmp es) → slice_get es i ≡ Some e → find row_cmp e.0 es ≡ Some e.1
  at_entry es i e sorted g = member_found es sorted e (member_at es i e g)
