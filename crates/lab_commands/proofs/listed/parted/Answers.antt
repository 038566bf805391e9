use Rattle.std.{proofs.{Common.{ap, ◌∙◌}, lemmas.Iterator.{Splits.{YieldsList-from_str_split}, Consumers.{YieldsList-end}}}, specs.{Prelude.{filter}, Str.Iter.{split_text, split_has_more, split_pattern}}}
use Rattle.lab_commands.specs.ListedNames.{is_name}
use Rattle.lab_commands.proofs.listed.parted.Goals as goal

pub returns : goal.returns
returns c =
    let split = c.split-name-items.ensures in
    let same = c.into_iter-name-iterator.ensures.into_iter_gives in
    let walk = YieldsList-from_str_split {s = c.into_iter-name-iterator.result} c.args.mark c.args.list.now c.requires (ap split_text same ∙ split.text) (ap split_has_more same ∙ split.has_more) (ap split_pattern same ∙ split.pattern) in
    let end = YieldsList-end {s = c.into_iter-name-iterator.result} walk c.loop-name.yielded c.loop-name.name-iterator c.loop-name.yielded_by c.next.result c.next.new.self c.in-None.is c.next.ensures.steps in
    c.loop-name.invariant ∙ ap (filter is_name) end.0
