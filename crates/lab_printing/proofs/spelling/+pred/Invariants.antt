use Rattle.lab_printing.proofs.Common.{◌+◌, ◌*◌, parts}
use Rattle.lab_printing.proofs.spelling.+pred.Given as goal

abbrev pub decreases-spell_pred : goal.decreases-spell_pred
decreases-spell_pred g l = 3 * parts l.pred.now + 1

abbrev pub decreases-spell_plain : goal.decreases-spell_plain
decreases-spell_plain g l = 3 * parts l.pred.now

abbrev pub decreases-spell_joined : goal.decreases-spell_joined
decreases-spell_joined g l = 3 * (parts l.left.now + parts l.right.now) + 2
