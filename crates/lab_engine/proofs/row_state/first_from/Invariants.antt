use Rattle.lab_engine.proofs.Common.{first_since, length, option_or, reverse, ◌≡◌}
use Rattle.lab_engine.proofs.row_state.first_from.Given as goal

-- what is left, else what was found so far, answers as all
abbrev pub invariant-loop-last : goal.invariant-loop-last
invariant-loop-last l = option_or (first_since l.place (reverse l.left)) l.first ≡ first_since l.place (reverse l.chain)

abbrev pub decreases-loop-last : goal.decreases-loop-last
decreases-loop-last l = length l.left
