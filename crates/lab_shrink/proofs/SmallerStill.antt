-- What is smaller than a smaller history is smaller than the whole.
use Rattle.std.{proofs.Common.{Some, None}, specs.Prelude.{Option, IfSome, IfOk, Result, Ok, Err, unwrap_or}}
use Rattle.lab_history.specs.History.{History}
use Rattle.lab_cut.{specs.PartOf.{IsPartOf}, proofs.PartLaws.{part_through}}
use Rattle.lab_shrink.specs.{Goals.{Shows}, Smaller.{IsSmaller}, declared.goal.Goal.{Goal}}

-- from the smallest so far, or from the whole where there is none yet
pub smaller_still : (whole : History) (goal : Goal) (found : Option History) (part : History) → IfSome found (IsSmaller whole goal) → IsSmaller (unwrap_or found whole) goal part → IsSmaller whole goal part
smaller_still whole goal None part so_far next = next
smaller_still whole goal (Some middle) part so_far next = record { part_of = part_through part middle whole next.part_of so_far.part_of; shows = next.shows }

-- a part that shows the goal is smaller
pub smaller_part : (whole : History) (goal : Goal) (part : History) → IsPartOf part whole → Shows part goal → IsSmaller whole goal part
smaller_part whole goal part is_part shows = record { part_of = is_part; shows = shows }

-- what is cut out of a part
pub left_still : {E : Type 0} (whole fewer : History) (left : Result (Option History) E) → IsPartOf fewer whole → IfOk left (λ found. IfSome found (λ part. IsPartOf part fewer))
    → IfOk left (λ found. IfSome found (λ part. IsPartOf part whole))
left_still whole fewer (Err e) of_whole of_fewer = tt
left_still whole fewer (Ok None) of_whole of_fewer = tt
left_still whole fewer (Ok (Some part)) of_whole of_fewer = part_through part fewer whole of_fewer of_whole
