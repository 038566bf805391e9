use Rattle.std.{proofs.Common.{subst, ◌∙◌}, specs.Io.KnownBytes.{Appends}}
use Rattle.lab_streams.proofs.{Taken.{said_of_input}, Unchanged.{kept, where_refused}}
use Rattle.lab_streams.proofs.subcommand.answer_input.Goals as goal

pub returns-clause-written : goal.returns-clause-written
returns-clause-written g c =
    let answer = c.in_ok-answer.answer in
    said_of_input _ c.in_ok-input.input.items answer.text.items (Appends _ _) (λ input text. g.S.Subcommand.Says c.args.subcommand input text answer.ending) c.in_ok-input.ensures.bytes
    (subst (Appends _ _) c.as_slice-2.ensures.value c.in_ok-write_text.ensures.written)
    (λ input is. g.met.S.Subcommand.whole c.args.subcommand input answer.text.items answer.ending
    (subst (λ bytes. g.S.Subcommand.Says c.args.subcommand bytes answer.text.items answer.ending) (c.as_slice.ensures.value ∙ is) c.in_ok-answer.ensures))

pub returns-in_err-write_text-clause-hint_last : goal.returns-in_err-write_text-clause-hint_last
returns-in_err-write_text-clause-hint_last g c = where_refused (kept _) _
