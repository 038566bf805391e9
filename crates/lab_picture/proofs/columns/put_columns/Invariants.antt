use Rattle.std.proofs.Common.{◌≡◌, ◌++◌, drop}
use Rattle.lab_picture.specs.Columns.{columns_text}
use Rattle.lab_picture.proofs.columns.put_columns.Given as goal

abbrev pub invariant-loop-place : goal.invariant-loop-place
invariant-loop-place l =
    l.out.items ++ columns_text l.history l.frame l.arrows l.drawing l.place (drop l.place l.columns)
    ≡ l.initial.out.items ++ columns_text l.history l.frame l.arrows l.drawing 0 l.columns
