-- Rows that a statement rules out by their own numbers.
use Rattle.std.proofs.{Common.{◌≡◌, ℤ, true, Some, sym, ap, ◌∙◌}, lemmas.Bool.{false≢true, true_from_ne_false, and_parts}}
use Rattle.std.specs.Prelude.{is_some}
use Rattle.lab_table.{specs.{Row.{Row}, Statement.{may_match}}, proofs.OneRow.{not_listed}}
use Rattle.lab_history.specs.declared.operation.Op.{Op}
use Rattle.lab_deps.specs.Broken.{is_unlisted}

-- a row that isn't listed though it matches isn't ruled out
pub may_be_unlisted : (op : Op) (row : Row) (value : ℤ) → is_unlisted op row value ≡ true → may_match op.statement row ≡ true
may_be_unlisted op row value unlisted =
    true_from_ne_false _ (λ off. false≢true (ap is_some (sym (not_listed op.statement row off (Some value))) ∙ (and_parts _ _ unlisted).0))
