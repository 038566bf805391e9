-- Rows that are chosen, noted one after the other.
use Rattle.std.{proofs.Common.{◌≡◌, Bool, true, false, cond, ◌||◌, List, ◌∷◌, Option, Some, refl, sym, ap, ◌∙◌}, specs.{Prelude.{is_some}, List.{list_any}, FinMap.{FinMap, get, insert, get-insert}}}
use Rattle.lab_table.specs.Row.{Row, row_cmp, row_eq, rows_total}

-- either test, in another order
either : (one had more : Bool) → ((one || had) || more) ≡ (had || (one || more))
either true true more = refl
either true false more = refl
either false had more = refl

-- who was noted and isn't found behind is noted
pub noted_alone : (had : Bool) → (had || false) ≡ had
noted_alone true = refl
noted_alone false = refl

-- a row that is noted
noted : (one : Bool) (o : Option (Unit {0})) (v : Unit {0}) → is_some (cond one (Some v) o) ≡ (one || is_some o)
noted true o v = refl
noted false o v = refl

module _ (q e : Row) where
  -- one more
  pub chosen_step : (old new : FinMap row_cmp (Unit {0})) (v : Unit {0}) (rows rest : List Row) (whole : Bool) → rows ≡ e ∷ rest → new ≡ insert old e v → (is_some (get old q) || list_any (row_eq q) rows) ≡ whole
      → (is_some (get new q) || list_any (row_eq q) rest) ≡ whole
  chosen_step old new v rows rest whole is put inv =
      ap (λ o. is_some o || list_any (row_eq q) rest) (ap (λ m. get m q) put ∙ get-insert rows_total old e v q)
      ∙ ap (λ b. b || list_any (row_eq q) rest) (noted (row_eq q e) (get old q) v)
      ∙ either (row_eq q e) (is_some (get old q)) (list_any (row_eq q) rest)
      ∙ sym (ap (λ rs. is_some (get old q) || list_any (row_eq q) rs) is)
      ∙ inv
