-- The numbers of transactions, and how many operations they have.
use Rattle.std.proofs.{Common.{◌≡◌, ℕ, ◌+◌, ◌==◌, false, List, [], ◌∷◌, ◌++◌, length, map, sym, ap, ◌∙◌, append-nil, length-append, ne_eqb, eq-eqb}, lemmas.Grind.{flat_map-append}}
use Rattle.lab_history.specs.{HistoryRules.{operations}, declared.transaction.Txn.{Txn}}

-- the numbers of transactions
abbrev pub numbers : List Txn → List ℕ
numbers txns = map (λ t. t.no) txns

-- the test of a number against others is the same from either side
pub unlike : (m n : ℕ) → (m == n) ≡ false → (n == m) ≡ false
unlike m n e = ne_eqb n m (λ same. let again = eq-eqb m n (sym same) in absurd cc)

-- how many operations there are with one transaction more
pub operations_push : (before : List Txn) (txn : Txn) → length (operations (before ++ txn ∷ [])) ≡ length (operations before) + length txn.ops
operations_push before txn =
    ap length (flat_map-append (λ (t : Txn). t.ops) before (txn ∷ []) ∙ ap (λ ops. operations before ++ ops) (append-nil txn.ops))
    ∙ length-append (operations before) txn.ops
