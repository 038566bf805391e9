use Rattle.std.{proofs.Common.{rules, sym, subst, ◌∙◌}, specs.Prelude.{IsUtf8}}
use Rattle.lab_reports.proofs.Paths.{path_is_utf8}
use Rattle.lab_reports.proofs.refusal_json.path_json.Goals as goal

pub text_json-requires : goal.text_json-requires
text_json-requires c = subst IsUtf8 (sym (c.deref.ensures.value ∙ c.in_ok-print.ensures)) (path_is_utf8 c.args.path (search rules))
