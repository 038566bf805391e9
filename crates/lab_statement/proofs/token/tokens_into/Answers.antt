use Rattle.lab_statement.proofs.{Common.{[], ◌++◌, ◌∙◌, ap, sym, arith, letters, tokens, tokens_from}, Tokens.{blank_begins, comma_begins, digit_begins, mark_begins, placed, word_begins}}
use Rattle.lab_statement.proofs.token.tokens_into.Goals as goal

pub loop-first-preserved-then-is_ascii_digit : goal.loop-first-preserved-then-is_ascii_digit
loop-first-preserved-then-is_ascii_digit c = placed _ _ _ c.loop-first.rest.now c.args.text.now c.digits_at-number.result.1.now c.in_ok-push.ensures.items c.loop-first.invariant (ap tokens c.in-Some.ensures.cases.0 ∙ digit_begins c.in-Some.first.now c.from.result c.in-Some.after.now c.if-is_ascii_digit.ensures.value (omega arith) ∙ c.digits_at-number.ensures.value)

pub loop-first-preserved-then-first-eq44 : goal.loop-first-preserved-then-first-eq44
loop-first-preserved-then-first-eq44 c = placed _ _ _ c.loop-first.rest.now c.args.text.now c.in-Some.after.now c.in_ok-push-2.ensures.items c.loop-first.invariant (ap tokens c.in-Some.ensures.cases.0 ∙ comma_begins _ _ c.if-first-eq44.true)

pub loop-first-preserved-then-is_blank : goal.loop-first-preserved-then-is_blank
loop-first-preserved-then-is_blank c = ap (λ ts. c.loop-first.found.items ++ ts) (sym (ap tokens c.in-Some.ensures.cases.0 ∙ blank_begins c.in-Some.first.now c.in-Some.after.now c.if-is_blank.ensures)) ∙ c.loop-first.invariant

pub loop-first-preserved-then-is_letter : goal.loop-first-preserved-then-is_letter
loop-first-preserved-then-is_letter c = placed _ _ _ c.loop-first.rest.now c.args.text.now c.word_at-word.result.1.now c.in_ok-push-3.ensures.items c.loop-first.invariant (ap tokens c.in-Some.ensures.cases.0 ∙ word_begins c.in-Some.first.now c.in-Some.after.now c.if-is_blank.ensures c.if-is_letter.ensures ∙ sym (ap (tokens_from (letters [])) c.in-Some.ensures.cases.0) ∙ c.word_at-word.ensures.value)

pub loop-first-preserved : goal.loop-first-preserved
loop-first-preserved c = placed _ _ _ c.loop-first.rest.now c.args.text.now c.mark_at-mark.result.1.now c.in_ok-push-4.ensures.items c.loop-first.invariant (ap tokens c.in-Some.ensures.cases.0 ∙ mark_begins c.in-Some.first.now c.in-Some.after.now c.if-is_ascii_digit.ensures.value c.if-is_blank.ensures c.if-is_letter.ensures ∙ c.mark_at-mark.ensures.value)
