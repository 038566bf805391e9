-- A statement that writes nothing frees nobody. It blocks nobody more where the level doesn't ask what was read, and none that only lists rows.
use Rattle.std.specs.FinMap as map
use Rattle.lab_engine.proofs.{Common.{ap, arith, Blocks, both_ways, eqb-true, false, grown, HasRead, inl, inr, is_read_only, is_some, IsTrue, keeps_statements, length, Level, Op, Past, Row, row_cmp, rules_of, Statement, sym, Table, true, Txn, version_by, version_or, Writes, ◌+◌, ◌==◌, ◌||◌, ◌∙◌, ◌≡◌, ◌⊎◌, reader_writes_none}, Blockers.{blocks_map}}

-- what is read is of no weight to a statement
abbrev pub Unasked : Level → Statement → Type 0
Unasked level s = (keeps_statements level ≡ false) ⊎ (is_read_only s ≡ true)

-- who has the same versions as another blocks a statement as that one does, where what it has read is of weight only if what the other has read is
blocks_as : (level : Level) (setup : Table) (past : Past) (asker : Txn) (s : Statement) (one other : Txn) → ((row : Row) → version_by one row ≡ version_by other row)
    → (IsTrue (keeps_statements level) → HasRead level setup past asker s one → HasRead level setup past asker s other) → Blocks level setup past asker s one → Blocks level setup past asker s other
blocks_as level setup past asker s one other same read = blocks_map level setup past asker s one past other (λ on h. (h.0, h.1, sym (same h.0) ∙ h.2, h.3))
    (λ on h. (h.0, sym (ap is_some (same h.0)) ∙ h.1, h.2)) (λ on. read (ap (λ b. b || (rules_of level).read_clashes) on))

module _ (level : Level) (setup : Table) (past : Past) (asker : Txn) (s : Statement) (holder : Txn) (op : Op) (none : IsTrue (map.len op.writes == 0)) where
  same : (row : Row) → version_by (grown holder op) row ≡ version_by holder row
  same row = ap (λ w. version_or holder.no (length holder.ops + 1) w (version_by holder row))
      (ap (λ (w : Writes). map.get w row) (map.empty_of_len op.writes (eqb-true (map.len op.writes) 0 none)) ∙ map.get-empty row_cmp row)

  -- whom its transaction blocked it blocks still
  pub reads_on : Blocks level setup past asker s holder → Blocks level setup past asker s (grown holder op)
  reads_on = blocks_as level setup past asker s holder (grown holder op) (λ row. sym (same row)) (λ _ had. (had.0, had.1, grind (arith, had.2)))

  pub reads_off : Unasked level s → Blocks level setup past asker s (grown holder op) → Blocks level setup past asker s holder
  reads_off why = blocks_as level setup past asker s (grown holder op) holder same (λ asks had. absurd (unread why asks had))
    where
      unread : Unasked level s → IsTrue (keeps_statements level) → ¬ HasRead level setup past asker s (grown holder op)
      unread (inl unasked) asks had = both_ways _ unasked asks
      unread (inr lists) asks had = both_ways _ (ap is_some (reader_writes_none s lists had.0 _)) had.1
