-- Writes that are installed in two parts, one after the other.
use Rattle.std.{proofs.{Common.{◌≡◌, ℕ, ◌≤◌, List, [], ◌∷◌, ◌++◌, take, drop, length, refl, sym, ap, ◌∙◌}, lemmas.List.{take-take, take-append-drop, take_min, drop_min}}, specs.Prelude.{min}}
use Rattle.lab_table.specs.{Row.{Row}, Table.{State, Table, put}}
use Rattle.lab_commands.specs.Overwriting.{put_each}
use Rattle.lab_compare.specs.{Behind.{table_at}, declared.commits.Commits.{Commits}}

in_parts : (first more : List (Row × State)) (table : Table) → put_each (first ++ more) table ≡ put_each more (put_each first table)
in_parts [] more table = refl
in_parts (w ∷ first) more table = in_parts first more (put w.0 w.1 table)

-- from so many writes on to more
on_from : (writes : List (Row × State)) (table : Table) (taken count : ℕ) → taken ≤ count → put_each (drop taken (take count writes)) (put_each (take taken writes) table) ≡ put_each (take count writes) table
on_from writes table taken count ahead =
    ap (λ (part : List (Row × State)). put_each (drop taken (take count writes)) (put_each part table)) (sym (take-take taken count writes ahead))
    ∙ sym (in_parts (take taken (take count writes)) (drop taken (take count writes)) table)
    ∙ ap (λ (part : List (Row × State)). put_each part table) (take-append-drop taken (take count writes))

-- the same, where what is left between is found within the bounds of lists
pub gone_on : (commits : Commits) (taken count n m : ℕ) (writes before next : List (Row × State)) (rows : Table) → taken ≤ count → writes ≡ commits.installs → n ≡ min count (length writes)
    → before ≡ take n writes → m ≡ min taken (length before) → next ≡ drop m before → rows ≡ table_at commits taken → put_each next rows ≡ table_at commits count
gone_on commits taken count n m writes before next rows ahead all upto front from rest stands =
    let whole : before ≡ take count commits.installs = front ∙ ap (λ k. take k writes) upto ∙ take_min count writes ∙ ap (take count) all in
    let left : next ≡ drop taken (take count commits.installs) = rest ∙ ap (λ k. drop k before) from ∙ drop_min taken before ∙ ap (drop taken) whole in
    ap (λ (part : List (Row × State)). put_each part rows) left
    ∙ ap (put_each (drop taken (take count commits.installs))) stands
    ∙ on_from commits.installs commits.first taken count ahead
