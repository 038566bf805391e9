use Rattle.std.proofs.Common.{◌≡◌, ◌∷◌, rules}
use Rattle.lab_history_file.proofs.WholeNumbers.{negative_spelled}
use Rattle.lab_history_file.proofs.reading.number.integer_of.Goals as goal

pub returns-else-number-eq0 : goal.returns-else-number-eq0
returns-else-number-eq0 c =
    let digits = c.in-Some.digits.now in
    let signed : c.args.text.now ≡ 45 ∷ digits = search rules in
    negative_spelled c.args.text.now digits c.in_ok-number.number signed c.in_ok-number.ensures.value c.if-number-eq0.false c.in_ok-number.ensures.small
