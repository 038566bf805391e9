-- Lists that have a member, and those that have none.
use Rattle.std.proofs.Common.{◌≡◌, ℕ, true, false, ◌==◌, List, [], ◌∷◌, length, Some, None, refl, eqb-true, arith}
use Rattle.lab_table.proofs.Tests.{true_and_false}
use Rattle.lab_history.specs.declared.{operation.Op.{Op}, transaction.Outcome.{Outcome}}
use Rattle.lab_cut.specs.Cut.{txn_of, if_any}

pub no_installer : (ns : List ℕ) → (length ns == 0) ≡ true → if_any ns ≡ None
no_installer [] e = refl
no_installer (n ∷ ns) e = let long = eqb-true (length (n ∷ ns)) 0 e in absurd (omega arith)

pub some_installer : (ns : List ℕ) → (length ns == 0) ≡ false → if_any ns ≡ Some ns
some_installer [] e = true_and_false _ (0 == 0) refl e
some_installer (n ∷ ns) e = refl

pub no_operation : (n : ℕ) (outcome : Outcome) (ops : List Op) → (length ops == 0) ≡ true → txn_of n outcome ops ≡ None
no_operation n outcome [] e = refl
no_operation n outcome (op ∷ ops) e = let long = eqb-true (length (op ∷ ops)) 0 e in absurd (omega arith)

pub some_operation : (n : ℕ) (outcome : Outcome) (ops : List Op) → (length ops == 0) ≡ false → txn_of n outcome ops ≡ Some (record { no = n; outcome = outcome; ops = ops })
some_operation n outcome [] e = true_and_false _ (0 == 0) refl e
some_operation n outcome (op ∷ ops) e = refl
