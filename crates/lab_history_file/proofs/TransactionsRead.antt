-- Transactions are read as what they stand for, and as nothing else.
use Rattle.std.{proofs.{Common.{◌≡◌, ℕ, ◌+◌, ◌≤◌, ◌==◌, Bool, true, false, List, [], ◌∷◌, length, Some, None, Ok, codes, refl, sym, ap, subst, ◌∙◌, arith, option_and_then, nat_lt, if◌then◌else◌, bytes_eq}, lemmas.Slice.Eq.{bytes_eq-Decides}}, specs.List.{list_any}}
use Rattle.serde_json.specs.{Data.{Data, string}, Find.{as_str, as_array}}
use Rattle.lab_history.{specs.{Faults.{required, refused_if}, HistoryRules.{operations}, declared.transaction.{Outcome.{Outcome, TheVariants.{Committed, Aborted}}, Txn.{Txn}}}, proofs.Steps.{both_ok, both_some, step_on, required_ok, required_is, refused_ok, refused_is, kept_limit, limit_kept}}
use Rattle.lab_history_file.specs.{Behind.{AllStand, Stands}, Entries.{txn_in_number, items_from}, FileOf.{IsListOf, IsOperation, IsTransaction, outcome_text}, Member.{count}, Keys.{txn_keys, object_with}, Format.{keyed, op_behind, outcome_named, txn_in, txns_in}, declared.file_version.FileVersion.{FileVersion}}
use Rattle.lab_history.specs.declared.fault.FileFault.TheVariants as fault
use Rattle.lab_history.specs.declared.fault.Limit.TheVariants as limit
use Rattle.lab_history.specs.declared.path.Path.TheVariants as path
use Rattle.lab_history_file.proofs.{ItemsRead.{items_read, items_are_read}, JsonShapes.{array_of, string_of, keyed_shape}, OperationsRead.{ops_read, ops_are_read, each_count}}

-- ---- outcomes

named_by : (committed aborted : Bool) (text : List ℕ) → (committed ≡ true → text ≡ codes "committed") → (aborted ≡ true → text ≡ codes "aborted") → (outcome : Outcome)
    → (if committed then Some Committed else if aborted then Some Aborted else None) ≡ Some outcome → text ≡ outcome_text outcome
named_by true aborted text first second outcome e = let same : Committed ≡ outcome = cc in first refl ∙ ap outcome_text same
named_by false true text first second outcome e = let same : Aborted ≡ outcome = cc in second refl ∙ ap outcome_text same
named_by false false text first second outcome e = absurd cc

outcome_spelled : (d : Data) (outcome : Outcome) → option_and_then outcome_named (as_str d) ≡ Some outcome → d ≡ string (outcome_text outcome)
outcome_spelled d outcome e =
    let parts = both_some (as_str d) outcome_named outcome e in
    let text = parts.0 in
    string_of d text parts.1
    ∙ ap (λ t. string t) (named_by (bytes_eq text (codes "committed")) (bytes_eq text (codes "aborted")) text (bytes_eq-Decides _ _).0 (bytes_eq-Decides _ _).0 outcome parts.2)

outcome_is_read : (outcome : Outcome) → outcome_named (outcome_text outcome) ≡ Some outcome
outcome_is_read Committed = refl
outcome_is_read Aborted = refl

-- ---- a transaction

module _ (version : FileVersion) (before : List Txn) (index : ℕ) where
  txn_parts : (own ops outcome : Data) (txn : Txn) → txn_in version before index (object_with txn_keys (own ∷ ops ∷ outcome ∷ [])) ≡ Ok txn
      → IsTransaction version (object_with txn_keys (own ∷ ops ∷ outcome ∷ [])) txn × Stands before txn
  txn_parts own ops outcome txn e =
      let numbered = both_ok (required (path.Number index) (txn_in_number own)) _ txn e in
      let alone = both_ok (refused_if (list_any (λ t. t.no == numbered.0) before) (fault.RepeatedTxn numbered.0)) _ txn numbered.2 in
      let ended = both_ok (required (path.Outcome index) (option_and_then outcome_named (as_str outcome))) _ txn alone.2 in
      let items = both_ok (required (path.Operations index) (as_array ops)) _ txn ended.2 in
      let room = both_ok (refused_if (nat_lt 10000 (length (operations before) + count items.0)) (fault.OverLimit limit.Operations)) _ txn items.2 in
      let those = both_ok (items_from (op_behind version index numbered.0) [] 0 items.0) _ txn room.2 in
      let made : Txn = record { no = numbered.0; outcome = ended.0; ops = those.0 } in
      let same : made ≡ txn = cc in
      let each = ops_read version index numbered.0 items.0 those.0 those.1 in
      let spelled = outcome_spelled outcome ended.0 (required_ok (path.Outcome index) _ ended.0 ended.1) in
      let many : count items.0 ≡ length those.0 = each_count (IsOperation version) items.0 those.0 each in
      let few : length (operations before) + count items.0 ≤ 10000 = kept_limit 10000 _ _ room.0 room.1 in
      let stands : Stands before made = record { alone = refused_ok _ _ alone.0 alone.1; room = omega (arith, many, few) } in
      subst (λ t. IsTransaction version (object_with txn_keys (own ∷ ops ∷ outcome ∷ [])) t × Stands before t) same (
        (
          own,
          ops,
          ap (λ o. object_with txn_keys (own ∷ ops ∷ o ∷ [])) spelled,
          required_ok (path.Number index) _ numbered.0 numbered.1,
          (items.0, array_of ops items.0 (required_ok (path.Operations index) _ items.0 items.1), each),
        ),
        stands,
      )

  -- a transaction that is read is one, and may stand there
  pub txn_read : (d : Data) (txn : Txn) → txn_in version before index d ≡ Ok txn → IsTransaction version d txn × Stands before txn
  txn_read d txn e =
      let keys = both_ok (keyed (path.Transaction index) txn_keys d) _ txn e in
      let shape = keyed_shape _ txn_keys d keys.0 keys.1 in
      let is = shape.1.1.1 in
      subst (λ t. IsTransaction version t txn × Stands before txn) (sym is) (txn_parts shape.0 shape.1.0 shape.1.1.0 txn (subst (λ t. txn_in version before index t ≡ Ok txn) is e))

  -- and one that is and may stand there, is read
  pub txn_is_read : (d : Data) (txn : Txn) → IsTransaction version d txn → Stands before txn → txn_in version before index d ≡ Ok txn
  txn_is_read d txn is stands =
      let items = is.4.0 in
      let many : count items ≡ length txn.ops = each_count (IsOperation version) items txn.ops is.4.2 in
      let few : length (operations before) + count items ≤ 10000 = let room = stands.room in omega (arith, many, room) in
      ap (txn_in version before index) is.2
      ∙ step_on _ (required_is (path.Number index) is.3)
      (step_on _ (refused_is (fault.RepeatedTxn txn.no) stands.alone)
      (step_on _ (required_is (path.Outcome index) (outcome_is_read txn.outcome))
      (step_on _ (required_is (path.Operations index) (ap as_array is.4.1))
      (step_on _ (limit_kept 10000 _ (fault.OverLimit limit.Operations) few)
      (step_on _ (ops_are_read version index txn.no items txn.ops is.4.2) refl)))))

-- ---- the list

-- a list of transactions that is read stands for them
pub list_read : (version : FileVersion) (d : Data) (txns : List Txn) → txns_in version d ≡ Ok txns → IsListOf (IsTransaction version) d txns × AllStand Stands [] txns × (length txns ≤ 1000)
list_read version d txns e =
    let items = both_ok (required path.Transactions (as_array d)) _ txns e in
    let few = both_ok (refused_if (nat_lt 1000 (count items.0)) (fault.OverLimit limit.Transactions)) _ txns items.2 in
    let found = items_read (txn_in version) (IsTransaction version) Stands (txn_read version) [] 0 items.0 txns few.2 in
    let same : found.0 ≡ txns = sym found.1 in
    let many : count items.0 ≡ length found.0 = each_count (IsTransaction version) items.0 found.0 found.2 in
    let within : count items.0 ≤ 1000 = kept_limit 1000 _ _ few.0 few.1 in
    subst (λ ts. IsListOf (IsTransaction version) d ts × AllStand Stands [] ts × (length ts ≤ 1000)) same
    ((items.0, array_of d items.0 (required_ok path.Transactions _ items.0 items.1), found.2), found.3, omega (arith, many, within))

pub list_is_read : (version : FileVersion) (d : Data) (txns : List Txn) → IsListOf (IsTransaction version) d txns → AllStand Stands [] txns → length txns ≤ 1000 → txns_in version d ≡ Ok txns
list_is_read version d txns is all few =
    let many : count is.0 ≡ length txns = each_count (IsTransaction version) is.0 txns is.2 in
    let within : count is.0 ≤ 1000 = omega (arith, many, few) in
    step_on _ (required_is path.Transactions (ap as_array is.1))
    (step_on _ (limit_kept 1000 _ (fault.OverLimit limit.Transactions) within) (items_are_read (txn_in version) (IsTransaction version) Stands (txn_is_read version) [] 0 is.0 txns is.2 all))
