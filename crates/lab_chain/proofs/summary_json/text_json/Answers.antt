use Rattle.std.{proofs.Common.{sym, ap, subst, ◌∙◌}, specs.Prelude.{◌≡◌, IfOk}}
use Rattle.serde_json.specs.{Data.{string}, View.{view}}
use Rattle.lab_chain.proofs.Utf8Texts.{utf8_is_string, other_texts_are_null}
use Rattle.lab_chain.proofs.summary_json.text_json.Goals as goal

pub returns-in-Ok : goal.returns-in-Ok
returns-in-Ok c =
    subst (λ d. IfOk c.string_json.result (λ v. view v ≡ d)) (ap string c.in-Ok.ensures.cases.0 ∙ sym (utf8_is_string _ c.in-Ok.ensures.cases.1)) c.string_json.ensures

pub returns-in-Err : goal.returns-in-Err
returns-in-Err c = c.null_json.ensures ∙ sym (other_texts_are_null _ c.in-Err.ensures.cases.0)
