use Rattle.std.{proofs.Common.{◌≡◌, ◌++◌, drop, map, take}, specs.{Prelude.{nat_lt}, List.{All}}}
use Rattle.serde_json.specs.{View.{items_of}, Written.{compact_text, items_text}}
use Rattle.lab_history_file.specs.Tree.{list_tree}
use Rattle.lab_history_file.proofs.writing.json_text.put_list.Given as goal

abbrev pub invariant-loop-place : goal.invariant-loop-place
invariant-loop-place g l = record {
  text : l.out.items ++ items_text (nat_lt 0 l.place) (items_of (map g.X.JsonText.tree (drop l.place l.items))) ≡ l.fn.out.items ++ compact_text (list_tree g.X.JsonText.tree l.fn.items);
  each : All (λ x. g.X.JsonText.Is (g.X.JsonText.tree x) x) (take l.place l.items);
}
