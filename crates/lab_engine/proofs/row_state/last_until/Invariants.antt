use Rattle.lab_engine.proofs.Common.{last_before, length, reverse, ◌≡◌}
use Rattle.lab_engine.proofs.row_state.last_until.Given as goal

-- what is left answers as all
abbrev pub invariant-loop-newest : goal.invariant-loop-newest
invariant-loop-newest l = last_before l.place (reverse l.left) ≡ last_before l.place (reverse l.chain)

abbrev pub decreases-loop-newest : goal.decreases-loop-newest
decreases-loop-newest l = length l.left
