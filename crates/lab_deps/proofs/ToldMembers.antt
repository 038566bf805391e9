-- What cells tell of edges is told of all lists with the same members.
use Rattle.std.proofs.Common.{ℕ, List, ◌++◌}
use Rattle.lab_deps.{specs.{EdgesByRow.{HasMembersOf}, KindBits.{edge_of, Tells}, declared.edge.Edge.{Edge}}, proofs.SameMembers.{both_members, same_members}}

pub told_same : (ps : List ℕ) (w : ℕ) (cs made : List ℕ) (es fs gs : List Edge) → HasMembersOf fs gs → Tells ps w cs made (es ++ fs) → Tells ps w cs made (es ++ gs)
told_same ps w cs made es fs gs same told =
    let has : HasMembersOf (es ++ fs) (es ++ gs) = both_members es es fs gs (same_members es) same in
    record {
      same = told.same;
      square = told.square;
      below = told.below;
      apart = told.apart;
      exact = λ from to kind d a b. (
        λ set. let one = (told.exact from to kind d a b).0 set in (one.0, (has (edge_of from to kind one.0)).0 one.1),
        λ (row, there). (told.exact from to kind d a b).1 (row, (has (edge_of from to kind row)).1 there),
      );
    }
