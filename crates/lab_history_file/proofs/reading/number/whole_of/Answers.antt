use Rattle.std.proofs.Common.{◌<◌, length, arith}
use Rattle.lab_history_file.proofs.WholeNumbers.{whole_spelled}
use Rattle.lab_history_file.proofs.reading.number.whole_of.Goals as goal

pub returns-clause-value : goal.returns-clause-value
returns-clause-value c =
    let bytes = c.as_bytes-digits.result.now in
    let some : 0 < length bytes = grind arith in
    whole_spelled c.args.text.now bytes c.number_in.result c.as_bytes-digits.ensures.value some c.number_in.ensures.value c.number_in.ensures.small
