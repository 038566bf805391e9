-- The first fault of operations is true of them.
use Rattle.std.{proofs.{Common.{◌≡◌, ◌⊎◌, inl, inr, ℕ, suc, ◌+◌, Bool, true, false, not, List, [], ◌∷◌, Some, Result, Ok, Err, refl, sym, ap, ◌∙◌, arith, subst}, lemmas.Bool.{not-true, both_ways}}, specs.Prelude.{⊤, slice_get}}
use Rattle.std.specs.FinMap as finite
use Rattle.lab_table.specs.Row.{Row}
use Rattle.lab_history.specs.Faults.{◌>>=◌, refused_if}
use Rattle.lab_history.specs.HistoryRules.{is_listed}
use Rattle.lab_history.specs.FirstPartsFault.{statement_prints, listed_from, op_checked, ops_checked}
use Rattle.lab_history.specs.PartsFault.{IsOpFault, unprintable, unlisted}
use Rattle.lab_history.specs.declared.{fault.FileFault.{FileFault}, operation.{Op.{Op}, VersionName.{VersionName}}, path.ListPlace.{ListPlace}}
use Rattle.lab_history.specs.declared.fault.FileFault.TheVariants as fault
use Rattle.lab_history.specs.declared.path.ListPlace.TheVariants as list
use Rattle.lab_history.specs.declared.path.Path.TheVariants as path
use Rattle.lab_history.proofs.PassedOps.{true_prints}

-- ---- the fault of two

pub fault_in : {B : Type 0} → FileFault → Result B FileFault → FileFault
fault_in else_fault (Ok x) = else_fault
fault_in else_fault (Err e) = e

pub same_fault : {B : Type 0} (r : Result B FileFault) (e f : FileFault) → r ≡ Err e → r ≡ Err f → e ≡ f
unfolding fault_in
same_fault r e f h g = sym (ap (fault_in e) h) ∙ ap (fault_in e) g

pub first_or_second : {B : Type 0} (r : Result ⊤ FileFault) (then : ⊤ → Result B FileFault) (f : FileFault) → (r >>= then) ≡ Err f → (r ≡ Err f) ⊎ (then tt ≡ Err f)
first_or_second (Ok x) then f h = inr h
first_or_second {B} (Err e) then f h = inl (ap (λ x. Err x) (same_fault {B = B} (Err e) e f refl h))

pub refused_for : (b : Bool) (e f : FileFault) → refused_if b e ≡ Err f → (b ≡ true) × (e ≡ f)
refused_for true e f h = (refl, same_fault {B = ⊤} (Err e) e f refl h)
refused_for false e f h = absurd cc

-- ---- operations

-- a member of a view that a file can't hold
record IsUnlisted (place : ListPlace) (index : ℕ) (es : List (Row × VersionName)) (f : FileFault) : Type 0 where
  k : ℕ
  entry : Row × VersionName
  stands : slice_get es k ≡ Some entry
  isnt : is_listed entry.1 ≡ false
  is : fault.WrongFormat (path.Member place (index + k)) ≡ f

listed_fault : (place : ListPlace) (index : ℕ) (es : List (Row × VersionName)) (f : FileFault) → listed_from place index es ≡ Err f → IsUnlisted place index es f
listed_fault place index [] f h = absurd cc
listed_fault place index (e ∷ es) f h =
    let wrong : ℕ → FileFault = λ n. fault.WrongFormat (path.Member place n) in
    elim (first_or_second (refused_if (not (is_listed e.1)) (wrong index)) (λ _. listed_from place (index + 1) es) f h) [
      | inl here ↦
          let refused : (not (is_listed e.1) ≡ true) × (wrong index ≡ f) = refused_for (not (is_listed e.1)) (wrong index) f here in
          record { k = 0; entry = e; stands = refl; isnt = not-true (is_listed e.1) refused.0; is = ap wrong (omega arith) ∙ refused.1 }
      | inr later ↦
          let rest : IsUnlisted place (index + 1) es f = listed_fault place (index + 1) es f later in
          record { k = suc rest.k; entry = rest.entry; stands = rest.stands; isnt = rest.isnt; is = ap wrong (omega arith) ∙ rest.is }
    ]

op_fault : (txn by index : ℕ) (op : Op) (f : FileFault) → op_checked txn by index op ≡ Err f → IsOpFault txn by index op f
op_fault txn by index op f h =
    let bad : FileFault = fault.BadStatement by (index + 1) in
    let place : ListPlace = list.View txn index in
    let es : List (Row × VersionName) = finite.entries op.view in
    elim (first_or_second (refused_if (not (statement_prints op.statement)) bad) (λ _. listed_from place 0 es) f h) [
      | inl here ↦
          let refused : (not (statement_prints op.statement) ≡ true) × (bad ≡ f) = refused_for (not (statement_prints op.statement)) bad f here in
          subst (IsOpFault txn by index op) refused.1 (unprintable (λ p. both_ways (statement_prints op.statement) (not-true (statement_prints op.statement) refused.0)
          (true_prints op.statement p)))
      | inr later ↦
          let rest : IsUnlisted place 0 es f = listed_fault place 0 es f later in
          subst (IsOpFault txn by index op) (ap (λ n. fault.WrongFormat (path.Member place n)) (omega arith) ∙ rest.is) (unlisted rest.k rest.entry rest.stands rest.isnt)
    ]

-- an operation of a list with a fault
pub record IsOpsFault (txn by index : ℕ) (ops : List Op) (f : FileFault) : Type 0 where
  pub j : ℕ
  pub op : Op
  pub stands : slice_get ops j ≡ Some op
  pub is : IsOpFault txn by (index + j) op f

pub ops_fault : (txn by index : ℕ) (ops : List Op) (f : FileFault) → ops_checked txn by index ops ≡ Err f → IsOpsFault txn by index ops f
ops_fault txn by index [] f h = absurd cc
ops_fault txn by index (op ∷ ops) f h =
    elim (first_or_second (op_checked txn by index op) (λ _. ops_checked txn by (index + 1) ops) f h) [
      | inl here ↦ record { j = 0; op = op; stands = refl; is = subst (λ n. IsOpFault txn by n op f) (omega arith) (op_fault txn by index op f here) }
      | inr later ↦
          let rest : IsOpsFault txn by (index + 1) ops f = ops_fault txn by (index + 1) ops f later in
          record { j = suc rest.j; op = rest.op; stands = rest.stands; is = subst (λ n. IsOpFault txn by n rest.op f) (omega arith) rest.is }
    ]
