use Rattle.lab_printing.proofs.{Common.{◌≡◌, ◌+◌, ◌∷◌, ◌++◌, map, drop, drop_more, ap, sym, subst, ◌∙◌, arith, common_steps, Each, joined}, Joined.{followed}, PutTexts.{first_put, next_put, same_length}}
use Rattle.lab_printing.proofs.spell.spell_all.Goals as goal

pub loop-item-init : goal.loop-item-init
loop-item-init g c =
    let old = g.S.Sink.text c.args.out.now in
    let first = c.in-Some.first.now in
    let rest = c.in-Some.rest.now in
    let whole : c.args.items.now ≡ first ∷ rest = c.in-Some.ensures.cases.0 in
    record {
      in_range = λ fits. subst (Each g.T.Spell.in_range) (sym whole) (c.if-not-spell.ensures.in_range, fits);
      text = first_put g.S.Sink.kept old (g.T.Spell.printed first) (map g.T.Spell.printed rest) c.if-not-spell.ensures.text
          ∙ ap (λ items. old ++ map g.S.Sink.kept (joined (map g.T.Spell.printed items))) (sym whole);
    }

pub loop-item-preserved : goal.loop-item-preserved
loop-item-preserved g c =
    let item = c.item-item.result in
    let rest = c.in-Some.rest.now in
    let left = drop (c.loop-item.item-index + 1) rest in
    let next : drop c.loop-item.item-index rest ≡ item ∷ left = drop_more rest c.loop-item.item-index item c.loop-item-test.true ∙ ap (λ it. it ∷ left) (sym c.item-item.is) in
    record {
      in_range = λ fits. c.loop-item.invariant.in_range (subst (Each g.T.Spell.in_range) (sym next) (c.if-not-spell_next.ensures.in_range, fits));
      text = next_put g.S.Sink.kept (g.S.Sink.text c.loop-item.out) (g.T.Spell.printed item) (map g.T.Spell.printed left) c.if-not-spell_next.ensures.text
          ∙ ap (λ items. g.S.Sink.text c.loop-item.out ++ map g.S.Sink.kept (followed (map g.T.Spell.printed items))) (sym next) ∙ c.loop-item.invariant.text;
    }

pub returns-then-not-spell_next-clause-text : goal.returns-then-not-spell_next-clause-text
returns-then-not-spell_next-clause-text g c =
    grind (arith, common_steps, same_length g.S.Sink.kept (g.S.Sink.text c.loop-item.out) (followed (map g.T.Spell.printed (drop c.loop-item.item-index c.in-Some.rest.now))) (g.S.Sink.text c.args.out.now) (joined (map g.T.Spell.printed c.args.items.now)) c.loop-item.invariant.text)
