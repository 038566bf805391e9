-- What an operation has to do with a row, by what its entries of the row are.
use Rattle.std.{proofs.Common.{◌≡◌, Bool, true, false, cond, [], Option, sym, ap, ◌∙◌}, specs.{Prelude.{ℕ, is_some, unwrap_or}, FinMap.{get}}}
use Rattle.lab_table.specs.Row.{Row}
use Rattle.lab_history.specs.{History.{History}, Version.{viewed}, declared.operation.{Op.{Op}, VersionName.{VersionName, TheVariants.{Initial}}}}
use Rattle.lab_deps.specs.{Collected.{reading_at, reading_of}, EdgesByRow.{Chain, walked_in, looks_at, found_at_row}, declared.reading.Reading.{Reading}}

module _ (h : History) (n : ℕ) (op : Op) (row : Row) (chain : Chain) where
  -- a row that it hasn't to look at
  pub unlooked : looks_at op row ≡ false → found_at_row h n op (row, chain) ≡ []
  unlooked off = ap (λ b. cond b (walked_in op.statement chain (reading_of h row n op)) []) off

  -- one that it has to look at
  pub looked : looks_at op row ≡ true → (listed : Bool) → listed ≡ is_some (get op.rows row) → (seen : Option VersionName) → seen ≡ get op.view row → (reading : Option Reading)
      → reading ≡ reading_at h row n (unwrap_or seen Initial) listed → walked_in op.statement chain reading ≡ found_at_row h n op (row, chain)
  looked on listed lists seen sees reading is =
      ap (walked_in op.statement chain) (is ∙ ap (λ o. reading_at h row n (unwrap_or o Initial) listed) sees ∙ ap (reading_at h row n (viewed op row)) lists)
      ∙ sym (ap (λ b. cond b (walked_in op.statement chain (reading_of h row n op)) []) on)
