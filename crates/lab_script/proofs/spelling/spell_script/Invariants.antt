use Rattle.lab_script.proofs.Common.{◌≡◌, ◌++◌, drop, flat_map, printed_line, Each, LineInRange}
use Rattle.lab_script.proofs.spelling.spell_script.Given as goal

abbrev pub invariant-loop-line : goal.invariant-loop-line
invariant-loop-line l = record {
  in_range : Each LineInRange (drop l.line-index l.line-items) → Each LineInRange l.line-items;
  text : l.out.items ++ flat_map printed_line (drop l.line-index l.line-items) ≡ l.initial.out.items ++ flat_map printed_line l.line-items;
}
