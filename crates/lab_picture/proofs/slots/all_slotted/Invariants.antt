use Rattle.std.proofs.Common.{◌≡◌, ◌++◌, drop, map}
use Rattle.lab_picture.specs.Slots.{slotted}
use Rattle.lab_picture.proofs.slots.all_slotted.Given as goal

abbrev pub invariant-loop-arrow : goal.invariant-loop-arrow
invariant-loop-arrow l =
    l.found.items ++ map (slotted l.few l.arrows l.marked) (drop l.arrow-index l.listed) ≡ map (slotted l.few l.arrows l.marked) l.listed
