-- What a mask leaves of a list. A mask says of each member in turn whether it is kept; members beyond its end are
-- kept.
use Rattle.std.specs.Prelude.{ℕ, Bool, true, cond, List, [], ◌∷◌, map, length, drop}
use Rattle.lab_table.specs.declared.statement.Statement.{Statement}
use Rattle.lab_history.specs.declared.transaction.Txn.{Txn}

-- whether the next member is kept
abbrev pub next_kept : List Bool → Bool
next_kept [] = true
next_kept (kept ∷ mask) = kept

-- the members that are kept
abbrev pub left_of : {A : Type 0} → List Bool → List A → List A
left_of mask [] = []
left_of mask (x ∷ xs) = cond (next_kept mask) (x ∷ left_of (drop 1 mask) xs) (left_of (drop 1 mask) xs)

-- a transaction's statements, in order
abbrev pub statements : Txn → List Statement
statements t = map (λ op. op.statement) t.ops

-- a transaction's number with its statements, before those of others; nothing of one that has none
abbrev pub with_statements : ℕ → List Statement → List (ℕ × List Statement) → List (ℕ × List Statement)
with_statements n [] rest = rest
with_statements n (s ∷ ss) rest = (n, s ∷ ss) ∷ rest

-- the statements of transactions that a mask of all their operations keeps; a transaction without one goes
abbrev pub left_statements : List Bool → List Txn → List (ℕ × List Statement)
left_statements mask [] = []
left_statements mask (t ∷ ts) = with_statements t.no (left_of mask (statements t)) (left_statements (drop (length t.ops) mask) ts)
