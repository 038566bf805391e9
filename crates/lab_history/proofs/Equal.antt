-- Whether entries are the same.
use Rattle.std.proofs.{Common.{◌≡◌, Bool, ◌&&◌, Decides, ap, ◌∙◌}, lemmas.Bool.{and_parts}}
use Rattle.lab_table.specs.Row.{Row, row_test, rows_decided}

-- a test of rows and one of what they have, together
pub entries_decided : {X : Type 0} {E : X → X → Bool} → ((x y : X) → Decides (E x y) (x ≡ y)) → (a b : Row × X) → Decides (row_test a.0 b.0 && E a.1 b.1) (a ≡ b)
entries_decided {E = E} decides a b = (
  λ t.
      let parts = and_parts (row_test a.0 b.0) (E a.1 b.1) t in
      let row = (rows_decided a.0 b.0).0 parts.0 in
      let value = (decides a.1 b.1).0 parts.1 in
      λ i. (row i, value i),
  λ e. ap (λ t. t && E a.1 b.1) ((rows_decided a.0 b.0).1 (ap (λ (p : Row × _). p.0) e)) ∙ (decides a.1 b.1).1 (ap (λ (p : Row × _). p.1) e),
)
