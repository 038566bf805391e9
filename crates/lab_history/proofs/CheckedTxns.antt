-- The walk along the transactions, at one of them.
use Rattle.std.proofs.{Common.{◌≡◌, ◌≤◌, ◌<◌, ℕ, ◌+◌, ◌==◌, Bool, true, false, not, List, [], ◌∷◌, ◌++◌, length, take, drop, get_or, Result, Ok, Err, inr, refl, sym, ap, ◌∙◌}, lemmas.{Bool.{true≢false, lt-ltb, le-ltb}, List.{at_drop_more, take_more}}}
use Rattle.std.specs.{Prelude.{⊤, nat_lt}, Result.{IsErrAnd}, List.{list_any}}
use Rattle.lab_history.{specs.{Faults.{◌>>=◌, refused_if, Gives}, HistoryRules.{operations}, FirstPartsFault.{ops_checked, txn_checked, txns_checked}, declared.{transaction.Txn.{Txn}, fault.FileFault.{FileFault}}}, proofs.Standing.{operations_push}}
use Rattle.lab_history.specs.declared.fault.FileFault.TheVariants as fault
use Rattle.lab_history.specs.declared.fault.Limit.TheVariants as limit

module _ (before : List Txn) (index : ℕ) (t : Txn) where
  pub repeated : list_any (λ m. m.no == t.no) before ≡ true → txn_checked before index t ≡ Err (fault.RepeatedTxn t.no)
  repeated is =
      ap (λ b. refused_if b (fault.RepeatedTxn t.no) >>= λ _. refused_if (nat_lt 10000 (length (operations before) + length t.ops))
      (fault.OverLimit limit.Operations) >>= λ _. ops_checked index t.no 0 t.ops) is

  -- its number is new: its operations decide
  fresh : list_any (λ m. m.no == t.no) before ≡ false
      → txn_checked before index t ≡ (refused_if (nat_lt 10000 (length (operations before) + length t.ops)) (fault.OverLimit limit.Operations) >>= λ _. ops_checked index t.no 0 t.ops)
  fresh isnt =
      ap (λ b. refused_if b (fault.RepeatedTxn t.no) >>= λ _. refused_if (nat_lt 10000 (length (operations before) + length t.ops))
      (fault.OverLimit limit.Operations) >>= λ _. ops_checked index t.no 0 t.ops) isnt

  pub too_many : list_any (λ m. m.no == t.no) before ≡ false → 10000 < length (operations before) + length t.ops → txn_checked before index t ≡ Err (fault.OverLimit limit.Operations)
  too_many isnt many =
      fresh isnt
      ∙ ap (λ b. refused_if b (fault.OverLimit limit.Operations) >>= λ _. ops_checked index t.no 0 t.ops) (lt-ltb 10000 (length (operations before) + length t.ops) many)

  pub operations_decide : list_any (λ m. m.no == t.no) before ≡ false → length (operations before) + length t.ops ≤ 10000 → txn_checked before index t ≡ ops_checked index t.no 0 t.ops
  operations_decide isnt few =
      fresh isnt
      ∙ ap (λ b. refused_if b (fault.OverLimit limit.Operations) >>= λ _. ops_checked index t.no 0 t.ops) (le-ltb 10000 (length (operations before) + length t.ops) few)

-- at a place
module _ (ts : List Txn) (i : ℕ) (t : Txn) (below : i < length ts) (here : t ≡ get_or ts i t) where
  pub taken_here : take (i + 1) ts ≡ take i ts ++ t ∷ []
  taken_here = take_more ts i t below ∙ ap (λ m. take i ts ++ m ∷ []) (sym here)

  pub operations_here : length (operations (take (i + 1) ts)) ≡ length (operations (take i ts)) + length t.ops
  operations_here = ap (λ l. length (operations l)) taken_here ∙ operations_push (take i ts) t

  walk_here : txns_checked (take i ts) i (drop i ts) ≡ (txn_checked (take i ts) i t >>= λ _. txns_checked (take i ts ++ t ∷ []) (i + 1) (drop (i + 1) ts))
  walk_here = at_drop_more (λ l. txns_checked (take i ts) i l) ts i t below ∙ ap (λ m. txns_checked (take i ts) i (m ∷ drop (i + 1) ts)) (sym here)

  pub walk_stops : (f : FileFault) → txn_checked (take i ts) i t ≡ Err f → txns_checked (take i ts) i (drop i ts) ≡ Err f
  walk_stops f e = walk_here ∙ ap (λ r. r >>= λ _. txns_checked (take i ts ++ t ∷ []) (i + 1) (drop (i + 1) ts)) e

  pub walk_goes : txn_checked (take i ts) i t ≡ Ok tt → txns_checked (take i ts) i (drop i ts) ≡ txns_checked (take (i + 1) ts) (i + 1) (drop (i + 1) ts)
  walk_goes e = walk_here ∙ ap (λ r. r >>= λ _. txns_checked (take i ts ++ t ∷ []) (i + 1) (drop (i + 1) ts)) e ∙ ap (λ l. txns_checked l (i + 1) (drop (i + 1) ts)) (sym taken_here)

-- what an insert into a set answers
pub was_there : (there added : Bool) → added ≡ not there → added ≡ false → there ≡ true
was_there true added e h = refl
was_there false added e h = absurd (true≢false (sym e ∙ h))

pub was_absent : (there added : Bool) → added ≡ not there → added ≡ true → there ≡ false
was_absent false added e h = refl
was_absent true added e h = absurd (true≢false (sym h ∙ e))

-- a fault that ends the walk is what a function gives
pub gives_fault : (r : Result ⊤ FileFault) (f : FileFault) (read : Result ⊤ FileFault) → IsErrAnd r (λ g. g ≡ f) → read ≡ Err f → Gives (λ _. tt) r read
gives_fault (Ok x) f read h e = absurd h
gives_fault (Err g) f read h e = inr (e ∙ ap (λ g. Err g) (sym h))
