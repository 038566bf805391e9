-- What masks leave of lists.
use Rattle.std.{proofs.Common.{◌≡◌, ℕ, Bool, true, false, cond, Option, List, [], ◌∷◌, map, length, refl, sym, ap, ◌∙◌}, specs.{Prelude.{drop}, List.{cons_option}}}
use Rattle.lab_history.specs.declared.{operation.Op.{Op}, transaction.{Outcome.{Outcome}, Txn.{Txn}}}
use Rattle.lab_cut.specs.{Left.{next_kept, left_of, statements, with_statements, left_statements}, declared.kept.Kept.{Kept}, Cut.{left_op, txn_of, left_txns}}

-- what is made of the members that are left
pub left_of-map : {A B : Type 0} (f : A → B) (mask : List Bool) (xs : List A) → left_of mask (map f xs) ≡ map f (left_of mask xs)
left_of-map f mask [] = refl
left_of-map f mask (x ∷ xs) =
    let rest = left_of-map f (drop 1 mask) xs in
    elim (next_kept mask) as (λ b. cond b (f x ∷ left_of (drop 1 mask) (map f xs)) (left_of (drop 1 mask) (map f xs)) ≡ map f (cond b (x ∷ left_of (drop 1 mask) xs) (left_of (drop 1 mask) xs))) [
      | true ↦ ap (λ ys. f x ∷ ys) rest
      | false ↦ rest
    ]

module _ (kept : ℕ → Option Kept) where
  -- operations keep their statements
  same_statements : (ops : List Op) → map (λ op. op.statement) (map (left_op kept) ops) ≡ map (λ op. op.statement) ops
  same_statements [] = refl
  same_statements (op ∷ ops) = ap (λ ss. op.statement ∷ ss) (same_statements ops)

  with_own : (n : ℕ) (outcome : Outcome) (ops : List Op) (ts : List Txn)
      → map (λ t. (t.no, statements t)) (cons_option (txn_of n outcome ops) ts) ≡ with_statements n (map (λ op. op.statement) ops) (map (λ t. (t.no, statements t)) ts)
  with_own n outcome [] ts = refl
  with_own n outcome (op ∷ ops) ts = refl

  -- the statements that are left are those that the mask keeps
  pub statements_left : (mask : List Bool) (ts : List Txn) → map (λ t. (t.no, statements t)) (left_txns kept mask ts) ≡ left_statements mask ts
  statements_left mask [] = refl
  statements_left mask (t ∷ ts) =
      let left = left_of mask t.ops in
      let behind = drop (length t.ops) mask in
      with_own t.no t.outcome (map (left_op kept) left) (left_txns kept behind ts)
      ∙ ap (λ ss. with_statements t.no ss (map (λ t. (t.no, statements t)) (left_txns kept behind ts))) (same_statements left ∙ sym (left_of-map (λ (op : Op). op.statement) mask t.ops))
      ∙ ap (with_statements t.no (left_of mask (statements t))) (statements_left behind ts)
