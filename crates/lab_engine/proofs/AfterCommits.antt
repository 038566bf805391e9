-- Whom a commit leaves blocked as before: those whom its transaction didn't block.
use Rattle.lab_table.specs.{Statement.{applied, kind_matches, kind_would_write, new_state}, declared.statement.StatementKind.TheVariants.{Delete, Insert, Select, Update}}
use Rattle.lab_engine.proofs.{Common.{active, ap, Blocks, Bool, both_ways, Command, commits, commits_after, Committed, committed_version, cond, false, false_from_ne_true, has_read, initial_version, inl, inr, is_some, IsSome, IsTrue, last_installed, Level, List, matches, None, Option, option_map, option_or, or_parts, Past, refl, Row, rules_of, seen, sees_as_of_begin, Some, State, Statement, StatementKind, subst, sym, Table, true, Txn, unwrap_or, Version, version_by, would_write, ℕ, ℤ, ◌||◌, ◌↔◌, ◌∙◌, ◌∷◌, ◌≡◌, ◌⊎◌}, Blockers.{blocks_by_match, blocks_by_write, blocks_map}, RuleTables.{readers_locked}}

-- what a statement wouldn't write in one state it wouldn't write in one that it doesn't match either
still_unwritten : (t : List ℕ) (kind : StatementKind) (row : Row) (old new : State) → kind_matches t kind row new ≡ false → kind_would_write t kind row old ≡ false
    → kind_would_write t kind row new ≡ false
still_unwritten t (Select pred) row old new off h = refl
still_unwritten t (Insert id value) row old new off h = h
still_unwritten t (Update expr pred) row old None off h = refl
still_unwritten t (Update expr pred) row old (Some v) off h = ap (λ b. is_some (option_map (λ (k : ℤ). Some (applied expr k)) (cond b (Some v) None))) off
still_unwritten t (Delete pred) row old None off h = refl
still_unwritten t (Delete pred) row old (Some v) off h = ap (λ b. is_some (option_map {U = State} (λ (k : ℤ). None) (cond b (Some v) None))) off

-- a row is seen as before, or a statement would write it neither before nor now
abbrev Alike : Statement → Row → Version → Version → Type 0
Alike s row old new = (old ≡ new) ⊎ ((would_write s row old.state ≡ false) × (would_write s row new.state ≡ false))

-- a row that another version than the transaction's own is seen of
alike_over : (s : Statement) (row : Row) (own : Option Version) (old new : Version) → matches s row new.state ≡ false → would_write s row (unwrap_or own old).state ≡ false
    → Alike s row (unwrap_or own old) (unwrap_or own new)
alike_over s row (Some v) old new off h = inl refl
alike_over s row None old new off h = inr (h, still_unwritten s.table s.kind row old.state new.state off h)

module _ (level : Level) (setup : Table) (asker : Txn) where
  -- a row whose committed version is the same is seen the same
  seen_same : (past after : Past) (row : Row) → committed_version setup past row ≡ committed_version setup after row → seen level setup past asker row ≡ seen level setup after asker row
  seen_same past after row same = ap (unwrap_or (version_by asker row)) (at (sees_as_of_begin level))
    where
      at : (begin : Bool) → committed_version setup (cond begin asker.before past) row ≡ committed_version setup (cond begin asker.before after) row
      at true = refl
      at false = same

  -- who blocks a statement after one log blocks it after another, in which it matches the same and what it would write is seen the same
  blocks_over : (past after : Past) (s : Statement) (holder : Txn)
      → ((rules_of level).match_blocks ≡ true → (row : Row) → matches s row (committed_version setup past row).state ≡ matches s row (committed_version setup after row).state)
      → ((rules_of level).write_blocks ≡ true → (row : Row) → IsSome (version_by holder row) → seen level setup past asker row ≡ seen level setup after asker row)
      → ((rules_of level).read_blocks ≡ true → (row : Row) → IsTrue (would_write s row (seen level setup past asker row).state) → seen level setup past asker row ≡ seen level setup after asker row)
      → Blocks level setup past asker s holder → Blocks level setup after asker s holder
  blocks_over past after s holder matched written read = blocks_map level setup past asker s holder after holder
      (λ on h. (h.0, h.1, h.2, subst (λ b. IsTrue (b || matches s h.0 h.1.state)) (matched on h.0) h.3))
      (λ on h. (h.0, h.1, subst (λ (v : Version). IsTrue (would_write s h.0 v.state)) (written on h.0 h.1) h.2))
      (λ on h. let now = subst (λ (v : Version). IsTrue (would_write s h.0 v.state) × IsTrue (has_read holder.ops h.0 v.state || has_read holder.ops h.0 (new_state s h.0 v.state)))
      (read on h.0 h.1) (h.1, h.2) in (h.0, now.0, now.1))

  -- so it is where all that is committed is the same
  pub blocks_alike : (past after : Past) (s : Statement) (holder : Txn) → ((row : Row) → committed_version setup past row ≡ committed_version setup after row)
      → Blocks level setup past asker s holder → Blocks level setup after asker s holder
  blocks_alike past after s holder same = blocks_over past after s holder (λ on row. ap (λ (v : Version). matches s row v.state) (same row))
      (λ on row some. seen_same past after row (same row)) (λ on row would. seen_same past after row (same row))

module _ (level : Level) (setup : Table) (past : Past) (e : ℕ) (command : Command) (t : Txn) (is : active past e ≡ Some t) where
  abbrev after : Past
  after = record { session = e; command = command; outcome = Committed } ∷ past

  -- the committed version of a row is the transaction's, if it has one
  pub committed_is : (row : Row) (own : Option Version) → version_by t row ≡ own → committed_version setup after row ≡ unwrap_or own (committed_version setup past row)
  committed_is row None none = ap (λ o. unwrap_or (last_installed (commits_after Committed o (commits past)) row) (initial_version setup row)) is
      ∙ ap (λ o. unwrap_or (option_or o (last_installed (commits past) row)) (initial_version setup row)) none
  committed_is row (Some v) some = ap (λ o. unwrap_or (last_installed (commits_after Committed o (commits past)) row) (initial_version setup row)) is
      ∙ ap (λ o. unwrap_or (option_or o (last_installed (commits past) row)) (initial_version setup row)) some

  module _ (asker : Txn) (s : Statement) (free : ¬ Blocks level setup past asker s t) where
    -- what the transaction wrote the statement matches neither as it was nor as it is
    unmatched : (rules_of level).match_blocks ≡ true → (row : Row) (v : Version) → version_by t row ≡ Some v
        → (matches s row (committed_version setup past row).state ≡ false) × (matches s row v.state ≡ false)
    unmatched on row v some = or_parts _ _ (false_from_ne_true _ (λ h. free (blocks_by_match level setup past asker s t on (row, v, some, h))))

    match_as : (rules_of level).match_blocks ≡ true → (row : Row) (own : Option Version) → version_by t row ≡ own
        → matches s row (committed_version setup past row).state ≡ matches s row (committed_version setup after row).state
    match_as on row None none = ap (λ (v : Version). matches s row v.state) (sym (committed_is row None none))
    match_as on row (Some v) some = let off = unmatched on row v some in off.0 ∙ sym off.1 ∙ ap (λ (k : Version). matches s row k.state) (sym (committed_is row (Some v) some))

    alike_at : (begin : Bool) (row : Row) → matches s row (committed_version setup after row).state ≡ false
        → would_write s row (unwrap_or (version_by asker row) (committed_version setup (cond begin asker.before past) row)).state ≡ false
        → Alike s row (unwrap_or (version_by asker row) (committed_version setup (cond begin asker.before past) row)) (unwrap_or (version_by asker row) (committed_version setup (cond begin asker.before after) row))
    alike_at true row off h = inl refl
    alike_at false row off h = alike_over s row (version_by asker row) (committed_version setup past row) (committed_version setup after row) off h

    alike : (rules_of level).read_blocks ≡ true → (row : Row) (own : Option Version) → version_by t row ≡ own → Alike s row (seen level setup past asker row) (seen level setup after asker row)
    alike on row None none = inl (seen_same level setup asker past after row (sym (committed_is row None none)))
    alike on row (Some v) some =
        let all = readers_locked level on in
        alike_at (sees_as_of_begin level) row (ap (λ (k : Version). matches s row k.state) (committed_is row (Some v) some) ∙ (unmatched all.0 row v some).1)
        (false_from_ne_true _ (λ h. free (blocks_by_write level setup past asker s t all.1 (row, ap is_some some, h))))

    -- the others block the statement as before
    pub still_blocked : (holder : Txn) → ((rules_of level).write_blocks ≡ true → (row : Row) → IsSome (version_by holder row) → version_by t row ≡ None)
        → Blocks level setup after asker s holder ↔ Blocks level setup past asker s holder
    still_blocked holder apart =
        let same = λ (on : (rules_of level).write_blocks ≡ true) (row : Row) (some : IsSome (version_by holder row)). committed_is row None (apart on row some) in (
          blocks_over level setup asker after past s holder (λ on row. sym (match_as on row (version_by t row) refl)) (λ on row some. seen_same level setup asker after past row (same on row some))
              (λ on row would. elim (alike on row (version_by t row) refl) [ inl eq ↦ sym eq | inr off ↦ absurd (both_ways _ off.1 would) ]),
          blocks_over level setup asker past after s holder (λ on row. match_as on row (version_by t row) refl) (λ on row some. seen_same level setup asker past after row (sym (same on row some)))
              (λ on row would. elim (alike on row (version_by t row) refl) [ inl eq ↦ eq | inr off ↦ absurd (both_ways _ off.0 would) ]),
        )
