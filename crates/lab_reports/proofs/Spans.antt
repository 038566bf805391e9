-- The values of transactions with their places.
use Rattle.std.proofs.Common.{◌≡◌, ℕ, List, [], ◌∷◌, map, ap, refl}
use Rattle.serde_json.specs.{Data.{array, item}, View.{items_of}}
use Rattle.lab_history_file.specs.Tree.{list_tree}
use Rattle.lab_judge.specs.Runs.{span_of, spans_of}
use Rattle.lab_reports.specs.Tree.{span_tree}

span_items : (items : List (ℕ × ℕ × ℕ)) → items_of (map (λ span. span_tree (span_of span)) items) ≡ items_of (map span_tree (spans_of items))
span_items [] = refl
span_items (span ∷ items) = ap (item (span_tree (span_of span))) (span_items items)

-- those of the code are those of what it stands for
pub span_trees : (items : List (ℕ × ℕ × ℕ)) → list_tree (λ span. span_tree (span_of span)) items ≡ list_tree span_tree (spans_of items)
span_trees items = ap array (span_items items)
