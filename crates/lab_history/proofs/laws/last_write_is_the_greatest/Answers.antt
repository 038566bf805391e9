use Rattle.lab_history.proofs.Greatest.{last_is_greatest, greatest_is_last, none_is_written, none_written}
use Rattle.lab_history.proofs.laws.last_write_is_the_greatest.Goals as goal

pub returns : goal.returns
returns c = record {
  last = λ ops row k. (last_is_greatest ops row k, greatest_is_last ops row k);
  none = λ ops row. (none_is_written ops row, none_written ops row);
}
