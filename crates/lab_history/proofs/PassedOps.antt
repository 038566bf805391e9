-- Operations have no fault exactly where they keep what operations keep.
use Rattle.std.{proofs.{Common.{◌≡◌, ℕ, ◌+◌, Bool, true, false, not, List, [], ◌∷◌, length, map, Result, Ok, Err, refl, ap, ◌∙◌}, lemmas.Bool.{leb-true, le-leb, and_parts, not-false, and_from, not_from_true}}, specs.{Prelude.{⊤, nat_le}, List.{list_all}}}
use Rattle.std.specs.FinMap as finite
use Rattle.lab_table.specs.{Row.{Row}, declared.statement.Statement.{Statement}}
use Rattle.lab_printing.specs.{Depth.{statement_depth}, Printed.{printed_statement}, Limits.{StatementPrints}}
use Rattle.lab_history.specs.{Faults.{◌>>=◌, refused_if}, HistoryRules.{is_listed, OpKeeps, OpsKeep}, FirstPartsFault.{statement_prints, listed_from, op_checked, ops_checked}, declared.{fault.FileFault.{FileFault}, operation.{Op.{Op}, VersionName.{VersionName}}, path.ListPlace.{ListPlace}}}
use Rattle.lab_history.specs.declared.fault.FileFault.TheVariants as fault
use Rattle.lab_history.specs.declared.path.ListPlace.TheVariants as list
use Rattle.lab_history.specs.declared.path.Path.TheVariants as path
use Rattle.lab_history.proofs.Steps.{refused_is}

-- ---- no fault in either of two

pub both_pass : {B : Type 0} (r : Result ⊤ FileFault) (f : ⊤ → Result B FileFault) (y : B) → (r >>= f) ≡ Ok y → (r ≡ Ok tt) × (f tt ≡ Ok y)
both_pass (Ok x) f y e = (refl, e)
both_pass (Err x) f y e = absurd cc

pub passed_then : {B : Type 0} (r : Result ⊤ FileFault) (f : ⊤ → Result B FileFault) → r ≡ Ok tt → (r >>= f) ≡ f tt
passed_then r f e = ap (λ s. s >>= f) e

pub not_refused : (b : Bool) (e : FileFault) → refused_if b e ≡ Ok tt → b ≡ false
not_refused true e h = absurd cc
not_refused false e h = refl

-- ---- operations

pub prints_true : (s : Statement) → statement_prints s ≡ true → StatementPrints s
prints_true s h =
    let parts : (nat_le (statement_depth s) 16 ≡ true) × (nat_le (length (printed_statement s)) 1000 ≡ true) = and_parts (nat_le (statement_depth s) 16)
    (nat_le (length (printed_statement s)) 1000) h in
    record { shallow = leb-true (statement_depth s) 16 parts.0; short = leb-true (length (printed_statement s)) 1000 parts.1 }

pub true_prints : (s : Statement) → StatementPrints s → statement_prints s ≡ true
true_prints s p = and_from (nat_le (statement_depth s) 16) (nat_le (length (printed_statement s)) 1000) (le-leb (statement_depth s) 16 p.shallow) (le-leb (length (printed_statement s)) 1000 p.short)

listed_passes : (place : ListPlace) (index : ℕ) (es : List (Row × VersionName)) → listed_from place index es ≡ Ok tt → list_all is_listed (map (λ e. e.1) es) ≡ true
listed_passes place index [] h = refl
listed_passes place index (e ∷ es) h =
    let wrong : FileFault = fault.WrongFormat (path.Member place index) in
    let parts = both_pass (refused_if (not (is_listed e.1)) wrong) (λ _. listed_from place (index + 1) es) tt h in
    and_from (is_listed e.1) (list_all is_listed (map (λ e. e.1) es)) (not-false (is_listed e.1) (not_refused (not (is_listed e.1)) wrong parts.0)) (listed_passes place (index + 1) es parts.1)

passes_listed : (place : ListPlace) (index : ℕ) (es : List (Row × VersionName)) → list_all is_listed (map (λ e. e.1) es) ≡ true → listed_from place index es ≡ Ok tt
passes_listed place index [] h = refl
passes_listed place index (e ∷ es) h =
    let wrong : FileFault = fault.WrongFormat (path.Member place index) in
    let parts = and_parts (is_listed e.1) (list_all is_listed (map (λ e. e.1) es)) h in
    passed_then (refused_if (not (is_listed e.1)) wrong) (λ _. listed_from place (index + 1) es) (refused_is wrong (not_from_true (is_listed e.1) parts.0))
    ∙ passes_listed place (index + 1) es parts.1

op_passes : (txn by index : ℕ) (op : Op) → op_checked txn by index op ≡ Ok tt → OpKeeps op
op_passes txn by index op h =
    let bad : FileFault = fault.BadStatement by (index + 1) in
    let parts = both_pass (refused_if (not (statement_prints op.statement)) bad) (λ _. listed_from (list.View txn index) 0 (finite.entries op.view)) tt h in
    record {
      prints = prints_true op.statement (not-false (statement_prints op.statement) (not_refused (not (statement_prints op.statement)) bad parts.0));
      listed = listed_passes (list.View txn index) 0 (finite.entries op.view) parts.1;
    }

passes_op : (txn by index : ℕ) (op : Op) → OpKeeps op → op_checked txn by index op ≡ Ok tt
passes_op txn by index op k =
    let bad : FileFault = fault.BadStatement by (index + 1) in
    passed_then (refused_if (not (statement_prints op.statement)) bad) (λ _. listed_from (list.View txn index) 0 (finite.entries op.view))
    (refused_is bad (not_from_true (statement_prints op.statement) (true_prints op.statement k.prints)))
    ∙ passes_listed (list.View txn index) 0 (finite.entries op.view) k.listed

pub ops_pass : (txn by index : ℕ) (ops : List Op) → ops_checked txn by index ops ≡ Ok tt → OpsKeep ops
ops_pass txn by index [] h = tt
ops_pass txn by index (op ∷ ops) h =
    let parts = both_pass (op_checked txn by index op) (λ _. ops_checked txn by (index + 1) ops) tt h in
    (op_passes txn by index op parts.0, ops_pass txn by (index + 1) ops parts.1)

pub pass_ops : (txn by index : ℕ) (ops : List Op) → OpsKeep ops → ops_checked txn by index ops ≡ Ok tt
pass_ops txn by index [] k = refl
pass_ops txn by index (op ∷ ops) k = passed_then (op_checked txn by index op) (λ _. ops_checked txn by (index + 1) ops) (passes_op txn by index op k.0) ∙ pass_ops txn by (index + 1) ops k.1
