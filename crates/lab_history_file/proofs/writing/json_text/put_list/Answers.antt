use Rattle.std.{proofs.{Common.{subst}, lemmas.List.{take_all}}, specs.List.{All}}
use Rattle.lab_history_file.proofs.WrittenLists.{list_stands}
use Rattle.lab_history_file.proofs.writing.json_text.put_list.Goals as goal

pub returns-clause-file : goal.returns-clause-file
returns-clause-file g c =
    list_stands g.X.JsonText.tree g.X.JsonText.Is c.args.items.now
    (subst (All (λ x. g.X.JsonText.Is (g.X.JsonText.tree x) x)) (take_all c.loop-place.place c.args.items.now c.loop-place-test.false) c.loop-place.invariant.each)
