-- The rules of each level as a table of six flags: what a transaction sees, which conflicts make a statement wait,
-- and which make a commit be refused.
--
-- Origin: locking: strict two-phase locking of rows and predicates, Eswaran, Gray, Lorie and Traiger, "The Notions of
-- Consistency and Predicate Locks in a Database System" (1976); snapshot: first committer wins, Berenson and others,
-- "A Critique of ANSI SQL Isolation Levels" (1995); optimistic: Kung and Robinson, "On Optimistic Methods for
-- Concurrency Control" (1981).
use Rattle.std.specs.Prelude.{Bool, true, false, ◌&&◌, ◌||◌, ⊤}
use Rattle.lab_engine.specs.declared.event.Level.{Level}
use Rattle.lab_engine.specs.declared.event.Level.TheVariants.{Locking, Snapshot, Optimistic, Committed as ReadCommitted}

-- a line of the table
pub record Rules : Type 0 where
  -- besides its own writes a transaction sees what had committed at its begin, and not what has by now
  pub sees_begin : Bool
  -- a statement waits for who has a pending write of a row that it matches
  pub match_blocks : Bool
  -- it waits for who has a pending write of a row that it would write
  pub write_blocks : Bool
  -- it waits for who has run a statement that matches a row that it would write
  pub read_blocks : Bool
  -- a commit is refused where one that committed since its begin wrote a row that it wrote
  pub write_clashes : Bool
  -- it is refused where one that committed since its begin changed a row to or from a state that one of its statements matches
  pub read_clashes : Bool

-- the table: a line for each level
abbrev pub rules_of : Level → Rules
rules_of Locking = record { sees_begin = false; match_blocks = true; write_blocks = true; read_blocks = true; write_clashes = false; read_clashes = false }
rules_of ReadCommitted = record { sees_begin = false; match_blocks = false; write_blocks = true; read_blocks = false; write_clashes = false; read_clashes = false }
rules_of Snapshot = record { sees_begin = true; match_blocks = false; write_blocks = false; read_blocks = false; write_clashes = true; read_clashes = false }
rules_of Optimistic = record { sees_begin = true; match_blocks = false; write_blocks = false; read_blocks = false; write_clashes = true; read_clashes = true }

-- what is asked only where a flag is set
abbrev pub Where : Bool → Type 0 → Type 0
Where true holds = holds
Where false holds = ⊤

-- what holds only where a flag is set
abbrev pub If : Bool → Type 0 → Type 0
If true holds = holds
If false holds = ⊥

-- whether what a transaction has read stays true up to its commit: who would change it waits, or the commit is refused
abbrev pub keeps_reads : Rules → Bool
keeps_reads rules = rules.read_blocks || rules.read_clashes

-- whether its history is a snapshot run: it sees its begin, and of two that write a row the first to commit wins
abbrev pub keeps_snapshots : Rules → Bool
keeps_snapshots rules = rules.sees_begin && rules.write_clashes
