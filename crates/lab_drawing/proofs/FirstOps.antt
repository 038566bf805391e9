-- The first operation that passes a test.
use Rattle.std.{proofs.{Common.{◌≡◌, ℕ, zero, suc, ◌+◌, ◌≤◌, Bool, true, false, cond, Some, List, [], ◌∷◌, refl, sym, ap, ◌∙◌, arith}, lemmas.{Bool.{false≢true}, Option.{none-some, same_Some}}}, specs.Prelude.{slice_get}}
use Rattle.lab_history.specs.declared.operation.Op.{Op}
use Rattle.lab_drawing.specs.Making.{first_op}

module _ (test : Op → Bool) where
  -- the operation at a place passes, and none at a lesser place does
  pub record IsFirst (ops : List Op) (i : ℕ) : Type 0 where
    pub op : Op
    pub here : slice_get ops i ≡ Some op
    pub passes : test op ≡ true
    pub least : (j : ℕ) (o : Op) → slice_get ops j ≡ Some o → test o ≡ true → i ≤ j

  at_head : (op : Op) (ops : List Op) → test op ≡ true → IsFirst (op ∷ ops) 0
  at_head op ops t = record { op = op; here = refl; passes = t; least = λ j o g u. omega arith }

  behind : (op : Op) (ops : List Op) (i : ℕ) → test op ≡ false → IsFirst ops i → IsFirst (op ∷ ops) (suc i)
  behind op ops i t first = record { op = first.op; here = first.here; passes = first.passes; least = least }
    where
      least : (j : ℕ) (o : Op) → slice_get (op ∷ ops) j ≡ Some o → test o ≡ true → suc i ≤ j
      least zero o g u = absurd (false≢true (sym t ∙ (ap test (same_Some op o g) ∙ u)))
      least (suc j) o g u = let l = first.least j o g u in omega arith

  -- where one passes, the first that does is found
  pub found_first : (before : ℕ) (ops : List Op) (j : ℕ) (o : Op) → slice_get ops j ≡ Some o → test o ≡ true
      → (i : ℕ) × (first_op test before ops ≡ Some (before + suc i)) × IsFirst ops i
  found_first before [] j o g t = absurd (none-some o g)
  found_first before (op ∷ ops) zero o g t =
      let passes : test op ≡ true = ap test (same_Some op o g) ∙ t in
      (0, ap (λ b. cond b (Some (before + 1)) (first_op test (before + 1) ops)) passes, at_head op ops passes)
  found_first before (op ∷ ops) (suc j) o g t =
      elim (test op) as (λ b. test op ≡ b → (i : ℕ) × (cond b (Some (before + 1)) (first_op test (before + 1) ops) ≡ Some (before + suc i)) × IsFirst (op ∷ ops) i) [
        | true ↦ λ passes. (0, refl, at_head op ops passes)
        | false ↦ λ fails.
            let rest = found_first (before + 1) ops j o g t in
            let number : before + 1 + suc rest.0 ≡ before + suc (suc rest.0) = omega arith in
            (suc rest.0, rest.1 ∙ ap (λ n. Some n) number, behind op ops rest.0 fails rest.2)
      ] refl
