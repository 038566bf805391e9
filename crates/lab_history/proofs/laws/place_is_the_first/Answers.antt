use Rattle.lab_history.proofs.Greatest.{place_is_least, least_is_place, none_is_placed, none_placed}
use Rattle.lab_history.proofs.laws.place_is_the_first.Goals as goal

pub returns : goal.returns
returns c = record {
  place = λ ns n p. (place_is_least ns n p, least_is_place ns n p);
  none = λ ns n. (none_is_placed ns n, none_placed ns n);
}
