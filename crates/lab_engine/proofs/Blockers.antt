-- Who blocks a statement, by each flag that says so.
use Rattle.lab_engine.proofs.{Common.{Blocks, HasRead, HoldsMatch, HoldsWrite, inl, inr, Level, Past, rules_of, Statement, Table, true, Txn, ◌≡◌}, RuleTables.{if_holds, if_made, if_map}}

module _ (level : Level) (setup : Table) (past : Past) (asker : Txn) (s : Statement) (one : Txn) where
  pub blocks_by_match : (rules_of level).match_blocks ≡ true → HoldsMatch setup past s one → Blocks level setup past asker s one
  blocks_by_match on h = inl (if_made (rules_of level).match_blocks on h)

  pub blocks_by_write : (rules_of level).write_blocks ≡ true → HoldsWrite level setup past asker s one → Blocks level setup past asker s one
  blocks_by_write on h = inr (inl (if_made (rules_of level).write_blocks on h))

  pub blocks_by_read : (rules_of level).read_blocks ≡ true → HasRead level setup past asker s one → Blocks level setup past asker s one
  blocks_by_read on h = inr (inr (if_made (rules_of level).read_blocks on h))

  -- who blocks it after one log, and who does after another
  pub blocks_map : (after : Past) (other : Txn) → ((rules_of level).match_blocks ≡ true → HoldsMatch setup past s one → HoldsMatch setup after s other)
      → ((rules_of level).write_blocks ≡ true → HoldsWrite level setup past asker s one → HoldsWrite level setup after asker s other)
      → ((rules_of level).read_blocks ≡ true → HasRead level setup past asker s one → HasRead level setup after asker s other)
      → Blocks level setup past asker s one → Blocks level setup after asker s other
  blocks_map after other matched written read (inl b) = inl (if_map (rules_of level).match_blocks matched b)
  blocks_map after other matched written read (inr (inl b)) = inr (inl (if_map (rules_of level).write_blocks written b))
  blocks_map after other matched written read (inr (inr b)) = inr (inr (if_map (rules_of level).read_blocks read b))

  -- who holds no match, has written nothing and read nothing blocks nobody
  pub blocks_none : ¬ HoldsMatch setup past s one → ¬ HoldsWrite level setup past asker s one → ¬ HasRead level setup past asker s one → ¬ Blocks level setup past asker s one
  blocks_none matched written read (inl b) = matched (if_holds (rules_of level).match_blocks b)
  blocks_none matched written read (inr (inl b)) = written (if_holds (rules_of level).write_blocks b)
  blocks_none matched written read (inr (inr b)) = read (if_holds (rules_of level).read_blocks b)
