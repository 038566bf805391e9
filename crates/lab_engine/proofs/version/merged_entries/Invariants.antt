use Rattle.lab_engine.proofs.Common.{drop, merged, ◌++◌, ◌≡◌}
use Rattle.lab_engine.proofs.version.merged_entries.Given as goal

-- the entries so far and what is left to merge make the whole
abbrev pub invariant-loop-entry : goal.invariant-loop-entry
invariant-loop-entry l = l.entries.items ++ merged l.left (drop l.entry-index l.over) ≡ merged l.under l.over
