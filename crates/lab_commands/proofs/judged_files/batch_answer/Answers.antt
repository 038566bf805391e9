use Rattle.std.proofs.lemmas.Iterator.{YieldsList-from_slice, YieldsList-from_zip, Consumers.{YieldsList-end}}
use Rattle.lab_commands.proofs.BatchParts.{have_parts, batched}
use Rattle.lab_commands.proofs.judged_files.batch_answer.Goals as goal

pub returns : goal.returns
returns g c =
    let names = c.args.names.now in
    let inputs = c.args.inputs.now in
    let answers = c.in_ok-answers.answers.items in
    let walk = YieldsList-from_zip (YieldsList-from_zip (YieldsList-from_slice names cc) (YieldsList-from_slice inputs.are_read.items cc)) (YieldsList-from_slice answers cc) in
    let end = YieldsList-end {s = c.into_iter-name-iterator.result} walk c.loop-name.yielded c.loop-name.name-iterator c.loop-name.yielded_by c.next.result c.next.new.self c.in-None.is c.next.ensures.steps in
    let have = have_parts c.args.wanted _ (λ file. file.items) names inputs.are_read.items inputs.files.items answers c.requires.are_read c.requires.files (rw c.deref.ensures.value at c.in_ok-answers.ensures) in
    batched c.args.wanted _ (λ file. file.items) (λ y. ((y.0.0.now, y.0.1.now), y.1.now)) c.loop-name.yielded names inputs.are_read.items inputs.files.items answers _ _ have end.0 c.loop-name.invariant.0 c.loop-name.invariant.1
