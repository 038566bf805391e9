use Rattle.lab_engine.proofs.Common.{drop, first_failing, ◌≡◌}
use Rattle.lab_engine.proofs.effect.first_failing.Given as goal

-- the first one is found among the entries that are left as among all
abbrev pub invariant-loop-entry : goal.invariant-loop-entry
invariant-loop-entry l = first_failing l.statement (drop l.entry-index l.matching) ≡ first_failing l.statement l.matching
