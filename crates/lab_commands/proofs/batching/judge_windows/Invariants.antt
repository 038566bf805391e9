use Rattle.std.proofs.Common.{◌≤◌, ◌-◌, ℕ, List, length, map, take, Option}
use Rattle.lab_commands.specs.Batching.{IsBatchAnswer}
use Rattle.lab_commands.proofs.batching.judge_windows.Given as goal

-- what is said so far is said of the names in front of those that are left
abbrev pub invariant-loop-done : goal.invariant-loop-done
invariant-loop-done g l =
    (l.done ≤ length l.names) × (inputs : List (Option (List ℕ))) × IsBatchAnswer l.wanted (map (λ name. name.now) (take l.done l.names)) inputs l.judged.text.items l.judged.status

abbrev pub decreases-loop-done : goal.decreases-loop-done
decreases-loop-done g l = length l.names - l.done
