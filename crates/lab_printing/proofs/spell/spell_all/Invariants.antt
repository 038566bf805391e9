use Rattle.lab_printing.proofs.{Common.{◌≡◌, ◌++◌, drop, map, Each, joined}, Joined.{followed}}
use Rattle.lab_printing.proofs.spell.spell_all.Given as goal

abbrev pub invariant-loop-item : goal.invariant-loop-item
invariant-loop-item g l = record {
  in_range : Each g.T.Spell.in_range (drop l.item-index l.rest) → Each g.T.Spell.in_range l.fn.items;
  text : g.S.Sink.text l.out ++ map g.S.Sink.kept (followed (map g.T.Spell.printed (drop l.item-index l.rest))) ≡ g.S.Sink.text l.fn.out ++ map g.S.Sink.kept (joined (map g.T.Spell.printed l.fn.items));
}
