use Rattle.std.proofs.Common.{◌≡◌, ◌||◌, ◌&&◌, ℕ, Some, drop}
use Rattle.lab_engine.proofs.Common.{list_any, has, is_none, kept_at}
use Rattle.lab_locking.specs.Reads as spec
use Rattle.lab_locking.proofs.reads.with_all_readers.Given as goal

-- those known and of the rows so far, and of the setup's rows that are left, are those known and of all of the setup
abbrev pub invariant-loop-entry : goal.invariant-loop-entry
invariant-loop-entry l = (n : ℕ) → (has l.readers n || list_any (λ entry. is_none (kept_at l.asker.situation.now.rows entry.0) && spec.reads_seen l.asker l.statement n entry.0 (Some entry.1)) (drop l.entry-index l.entries))
    ≡ (has l.fn.known n || spec.reads_of_untouched l.asker l.statement n)

-- with those of the written rows that are left they are those of all
abbrev pub invariant-loop-row : goal.invariant-loop-row
invariant-loop-row l = (n : ℕ) → (has l.readers n || list_any (λ entry. spec.reads_row l.asker l.statement n entry.0) l.row-iterator)
    ≡ (has l.fn.known n || (spec.reads_of_untouched l.asker l.statement n || spec.reads_of_written l.asker l.statement n))
