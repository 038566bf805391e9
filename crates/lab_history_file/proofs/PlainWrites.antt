-- Lists of written rows, with states as the code has them and with plain ones.
use Rattle.std.{proofs.Common.{◌≡◌, List, [], ◌∷◌, map, option_map, refl, ap, sym, subst, ◌∙◌}, specs.{Prelude.{ℤ, Option, Some, None, is_some, Result, Ok, Err, OnOk}, FinMap.{FinMap}}}
use Rattle.std.specs.FinMap as finite
use Rattle.serde_json.specs.{Data.{Items, array, no_items, item}, View.{items_of}}
use Rattle.lab_table.{specs.Row.{Row, row_cmp}, proofs.Tests.{mapped_some}}
use Rattle.lab_history_file.{specs.{Entries.{state_in}, FileOf.{AreEach, IsListOf, IsMapOf, IsPair, IsState}, Tree.{written_tree, state_tree, pair_tree, list_tree, map_tree}, declared.file_version.FileVersion.{FileVersion, TheVariants.{Two}}}, proofs.FileKeys.{state_is, state_read}}
use Rattle.lab_history.specs.{VersionName.{state_value, new_states}, declared.operation.State.{State}}

-- the same values have states of both kinds
pub written_there : (o : Option State) → is_some o ≡ is_some (option_map state_value o)
written_there None = refl
written_there (Some s) = refl

-- the trees of the rows
pub write_trees : (es : List (Row × State)) → list_tree (pair_tree state_tree) es ≡ list_tree (pair_tree written_tree) (new_states es)
write_trees es = ap (λ ds. array (items_of ds)) (each es)
  where
    each : (es : List (Row × State)) → map (pair_tree state_tree) es ≡ map (pair_tree written_tree) (new_states es)
    each [] = refl
    each (e ∷ es) = ap (λ ds. pair_tree state_tree e ∷ ds) (each es)

module _ (version : FileVersion) where
  -- what stands for rows of the code stands for plain ones
  pub plain_writes : (ds : Items) (es : List (Row × State)) → AreEach (IsPair version (λ d s. state_in d ≡ Some s)) ds es → AreEach (IsPair version IsState) ds (new_states es)
  plain_writes no_items [] each = tt
  plain_writes no_items (e ∷ es) each = absurd each
  plain_writes (item d ds) [] each = absurd each
  plain_writes (item d ds) (e ∷ es) ((x, begins, is), each) = ((x, begins, state_is x (state_value e.1) (ap (option_map state_value) is)), plain_writes ds es each)

  -- and the other way round
  pub code_writes : (ds : Items) (es : List (Row × Option ℤ)) → AreEach (IsPair version IsState) ds es → (ws : List (Row × State)) × AreEach (IsPair version (λ d s. state_in d ≡ Some s)) ds ws × (new_states ws ≡ es)
  code_writes no_items [] each = ([], tt, refl)
  code_writes no_items (e ∷ es) each = absurd each
  code_writes (item d ds) [] each = absurd each
  code_writes (item d ds) (e ∷ es) ((x, begins, is), each) =
      let state = mapped_some state_value (state_in x) e.1 (state_read x e.1 is) in
      let rest = code_writes ds es each in
      ((e.0, state.0) ∷ rest.0, ((x, begins, state.1), rest.1), λ i. (e.0, state.2 i) ∷ rest.2 i)

-- what is written of rows of the code stands for the plain ones
pub writes_stand : {A E : Type 0} (result : Result A E) (es : List (Row × State)) (m : FinMap row_cmp (Option ℤ)) → new_states es ≡ finite.entries m
    → OnOk result (IsListOf (IsPair Two (λ d s. state_in d ≡ Some s)) (list_tree (pair_tree state_tree) es) es) → OnOk result (IsMapOf (IsPair Two IsState) (map_tree written_tree m) m)
writes_stand (Ok x) es m plain is =
    subst (λ ws. IsListOf (IsPair Two IsState) (list_tree (pair_tree written_tree) ws) ws) plain (is.0, sym (write_trees es) ∙ is.1, plain_writes Two is.0 es is.2)
writes_stand (Err e) es m plain is = tt
