use Rattle.std.{proofs.Common.{◌≡◌, ◌≤◌, ℕ, ◌==◌, [], take, drop, length}, specs.{List.{list_any}, Ordering.{nat_cmp}, BTreeSet.{contains}}}
use Rattle.lab_history.specs.{HistoryRules.{operations}, FirstPartsFault.{txns_checked}}
use Rattle.lab_history.proofs.checking.check_txns.Given as goal

abbrev pub invariant-loop-index : goal.invariant-loop-index
invariant-loop-index l =
    (txns_checked (take l.index l.txns) l.index (drop l.index l.txns) ≡ txns_checked [] 0 l.txns)
    × ((q : ℕ) → contains nat_cmp l.numbers q ≡ list_any (λ t. t.no == q) (take l.index l.txns))
    × (l.operations ≡ length (operations (take l.index l.txns))) × (l.operations ≤ 10000)
