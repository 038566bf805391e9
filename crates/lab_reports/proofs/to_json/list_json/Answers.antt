use Rattle.lab_reports.proofs.ListedValues.{one_more, list_seen}
use Rattle.lab_reports.proofs.to_json.list_json.Goals as goal

pub loop-item-preserved : goal.loop-item-preserved
loop-item-preserved g c =
    one_more g.X.ToJson.tree _ _ _ c.args.items.now _ _ c.loop-item-test.true c.item-item.is c.in_ok-to_json.ensures
    c.in_ok-push.ensures.items c.loop-item.invariant

pub returns : goal.returns
returns g c = list_seen g.X.ToJson.tree _ c.args.items.now _ c.loop-item-test.false c.loop-item.invariant
