use Rattle.std.proofs.Common.{◌≡◌, ℕ, ◌≤◌, None, length, drop}
use Rattle.lab_history.specs.HistoryRules.{operations}
use Rattle.lab_cut.specs.Kept.{kept_in, all_kept, last_given}
use Rattle.lab_cut.proofs.kept.Moves.of.Given as goal

abbrev pub invariant-loop-txn : goal.invariant-loop-txn
invariant-loop-txn l = record {
  given : (n : ℕ) → last_given (kept_in l.moves n) (all_kept l.mask (drop l.txn-index l.txns)) n ≡ last_given None (all_kept l.kept l.txns) n;
  few : length (operations (drop l.txn-index l.txns)) ≤ 10000;
}
