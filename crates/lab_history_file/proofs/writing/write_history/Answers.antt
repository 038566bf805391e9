use Rattle.std.{proofs.Common.{◌≡◌, ℕ, List, ◌++◌, Some, sym, ap₂, subst, ◌∙◌}, specs.Prelude.{IsUtf8}}
use Rattle.serde_json.specs.{Read.{read}, Written.{compact_text}}
use Rattle.lab_history.specs.History.{History}
use Rattle.lab_history_file.{specs.{FileOf.{IsFileIn}, Tree.{tree_of}, declared.file_version.FileVersion.TheVariants.{Two}}, proofs.WrittenFits.{written_utf8, written_read}}
use Rattle.lab_history_file.proofs.writing.write_history.Goals as goal

pub returns-clause-text : goal.returns-clause-text
returns-clause-text c = c.in_ok-put_parts.ensures.text ∙ ap₂ (λ (old : List ℕ) (h : History). old ++ compact_text (tree_of h)) c.new-text.ensures.items c.parts.ensures.value

pub returns-clause-file : goal.returns-clause-file
returns-clause-file c = subst (λ h. IsFileIn Two (tree_of h) h) c.parts.ensures.value c.in_ok-put_parts.ensures.file

pub returns-clause-utf8 : goal.returns-clause-utf8
returns-clause-utf8 c = subst IsUtf8 (sym (returns-clause-text c)) (written_utf8 c.args.history.now (returns-clause-file c))

pub returns-clause-value : goal.returns-clause-value
returns-clause-value c = subst (λ text. read text ≡ Some (tree_of c.args.history.now)) (sym (returns-clause-text c)) (written_read c.args.history.now (returns-clause-file c))
