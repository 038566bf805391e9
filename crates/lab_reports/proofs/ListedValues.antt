-- Lists of values that are made item by item.
use Rattle.std.proofs.Common.{◌≡◌, ℕ, ◌+◌, ◌<◌, ◌≤◌, List, [], ◌∷◌, ◌++◌, length, map, take, get_or, Vec, ap, ap₂, sym, ◌∙◌}
use Rattle.std.specs.declared.alloc.Global.{Global}
use Rattle.std.proofs.lemmas.List.{map-append, take_more, take_all}
use Rattle.serde_json.{specs.{Data.{Data, array}, View.{view, items_of}, declared.value.Value.{Value, Array}}, proofs.Views.{view-Array}}
use Rattle.lab_history_file.specs.Tree.{list_tree}

module _ {X : Type 0} (tree : X → Data) where
  -- one more value
  pub one_more : (values new : List Value) (v : Value) (xs : List X) (i : ℕ) (x : X) → i < length xs → x ≡ get_or xs i x
      → view v ≡ tree x → new ≡ values ++ v ∷ [] → map view values ≡ map tree (take i xs) → map view new ≡ map tree (take (i + 1) xs)
  one_more values new v xs i x lt is seen pushed h =
      ap (map view) pushed ∙ map-append view values (v ∷ []) ∙ ap₂ (λ a b. a ++ b ∷ []) h (seen ∙ ap tree is)
      ∙ sym (map-append tree (take i xs) (get_or xs i x ∷ [])) ∙ ap (map tree) (sym (take_more xs i x lt))

  -- all of them are the list
  pub list_seen : (v : Vec Value Global) (xs : List X) (i : ℕ) → length xs ≤ i → map view v.items ≡ map tree (take i xs) → view (Array v) ≡ list_tree tree xs
  list_seen v xs i le h = view-Array v ∙ ap (λ ds. array (items_of ds)) (h ∙ ap (map tree) (take_all i xs le))
