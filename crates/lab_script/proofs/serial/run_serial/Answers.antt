use Rattle.lab_script.proofs.{Common.{◌≡◌, sym, ap, subst, ◌∙◌, ℕ, ◌+◌, Bool, List, Line, nil_from_length, arith, TranscriptView, unprintable, transcript, sessions_in}, BrokenLimits.{broken_in, printed_all}, RemainingTranscript.{output_by, transaction_line}}
use Rattle.lab_script.proofs.serial.run_serial.Goals as goal

pub loop-line-preserved : goal.loop-line-preserved
loop-line-preserved c =
    let total : TranscriptView = record { text = transcript c.args.script.now; unprintable = unprintable c.args.script.now } in
    record {
      output = subst (λ (after : ℕ → Bool). output_by (c.loop-line.number + 1) c.run_transaction.new.output c.run_transaction.new.table after c.in-Some.later.now ≡ total) (sym c.note.ensures)
          (transaction_line c.loop-line.number c.loop-line.output c.loop-line.table (sessions_in c.loop-line.inside) c.in-Some.line.now c.loop-line.rest.now c.in-Some.later.now total
          c.loop-line.invariant.output c.in-Some.ensures.cases.0 (sym c.begins-starts.ensures ∙ c.if-not-starts.false) c.run_transaction.new.output c.run_transaction.new.table
          c.in_ok-run_transaction.ensures.text c.in_ok-run_transaction.ensures.unprintable c.in_ok-run_transaction.ensures.table);
      few = omega (arith, c.in-Some.ensures.cases.1);
    }

pub returns-then-spell_table-clause-unprintable : goal.returns-then-spell_table-clause-unprintable
returns-then-spell_table-clause-unprintable c =
    ap (λ (view : TranscriptView). view.unprintable) c.output-2.view_is
    ∙ ap (λ (lines : List Line). (output_by c.loop-line.number c.loop-line.output c.loop-line.table (sessions_in c.loop-line.inside) lines).unprintable)
    (sym (nil_from_length _ c.in_default.ensures.cases))
    ∙ ap (λ (view : TranscriptView). view.unprintable) c.loop-line.invariant.output

pub returns-then-spell_table-clause-printed : goal.returns-then-spell_table-clause-printed
returns-then-spell_table-clause-printed c = printed_all c.args.script.now _ (returns-then-spell_table-clause-unprintable c)

pub returns-then-spell_table-clause-broken : goal.returns-then-spell_table-clause-broken
returns-then-spell_table-clause-broken c = broken_in c.args.script.now _ (returns-then-spell_table-clause-unprintable c)
