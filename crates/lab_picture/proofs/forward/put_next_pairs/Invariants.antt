use Rattle.std.proofs.Common.{◌≡◌, ◌++◌, min, length, take, drop, map}
use Rattle.lab_picture.proofs.forward.put_next_pairs.Given as goal

abbrev pub invariant-loop-to : goal.invariant-loop-to
invariant-loop-to l = l.out.items ++ map (λ m. record { from = l.from; to = m }) (drop l.to-index (take (min (length l.behind) l.most) l.behind)) ≡ l.initial.out.items ++ map (λ m. record { from = l.from; to = m }) (take (min (length l.behind) l.most) l.behind)
