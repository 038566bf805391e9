use Rattle.std.proofs.Common.{◌≡◌, ◌++◌, drop, filter}
use Rattle.lab_drawing.{specs.Nicknames.{has_form}, proofs.SaidNames.{names_behind}}
use Rattle.lab_drawing.proofs.nicknames.put_those_of.Given as goal

abbrev pub invariant-loop-nickname : goal.invariant-loop-nickname
invariant-loop-nickname l =
    l.out.items ++ names_behind l.lead l.end (filter (has_form l.history l.walk) (drop l.nickname-index l.among))
    ≡ l.initial.out.items ++ names_behind l.initial.lead l.initial.end (filter (has_form l.history l.walk) l.among)
