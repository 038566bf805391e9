-- The order and the timestamps of a run, from those of its parts.
use Rattle.std.specs.Prelude.{ℕ, suc, ◌+◌, max, List, [], ◌∷◌, ◌++◌, map}
use Rattle.lab_history.specs.History.{History}
use Rattle.lab_judge.specs.Runs.{Span}
use Rattle.lab_parts.specs.Whole.{moved}

-- a part, and an order of its transactions
pub record Ordered : Type 0 where
  pub part : History
  pub order : List ℕ

-- a part, and places of its transactions
pub record Placed : Type 0 where
  pub part : History
  pub spans : List Span

-- the parts' orders, one behind the other
abbrev pub whole_order : Ordered → List Ordered → List ℕ
whole_order first [] = first.order
whole_order first (next ∷ others) = first.order ++ map (moved first.part) (whole_order next others)

-- the least place above all commits
abbrev pub above_commits : List Span → ℕ
above_commits [] = 0
above_commits (s ∷ ss) = max (suc s.commit) (above_commits ss)

-- places behind those of an earlier part
abbrev pub moved_span : Placed → Span → Span
moved_span before s = record { txn = moved before.part s.txn; start = above_commits before.spans + s.start; commit = above_commits before.spans + s.commit }

-- the parts' places, those of each behind those before
abbrev pub whole_spans : Placed → List Placed → List Span
whole_spans first [] = first.spans
whole_spans first (next ∷ others) = first.spans ++ map (moved_span first) (whole_spans next others)
