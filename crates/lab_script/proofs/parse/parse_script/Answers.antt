use Rattle.lab_script.proofs.{Common.{sym, subst, ◌∙◌, List, ℕ, [], None, MatchResult, err_from_is_err_and, IsFaultOf}, FirstFault.{IsRead, IsReadTo, none_read, one_more_read, line_faults, whole_read, all_told}, TextLines.{text_lines}}
use Rattle.lab_script.proofs.parse.parse_script.Goals as goal

pub loop-line-init : goal.loop-line-init
loop-line-init c =
    let text = c.args.text.now in (
      subst (λ (rest : List (List ℕ)). IsReadTo text 0 rest None) (sym (c.into_iter-line-iterator.ensures.into_iter_gives ∙ c.lines-line-items.ensures.value ∙ text_lines text))
          (none_read text),
      c.new-tables.ensures,
    )

pub loop-line-preserved : goal.loop-line-preserved
loop-line-preserved c = (
  one_more_read
      (subst (λ (rest : List (List ℕ)). IsReadTo c.args.text.now c.loop-line.number rest c.loop-line.script) c.in-Some.ensures.steps c.loop-line.invariant.0)
      c.in_ok-read_line.ensures.found,
  c.in_ok-read_line.ensures.named,
)

pub returns-in_err-read_line : goal.returns-in_err-read_line
returns-in_err-read_line c =
    let text = c.args.text.now in
    let given = c.in_err-read_line.field-0.0 in
    let rest = subst (λ (ls : List (List ℕ)). IsReadTo text c.loop-line.number ls c.loop-line.script) c.in-Some.ensures.steps c.loop-line.invariant.0 in
    let fault : IsFaultOf text given = line_faults rest given c.in_err-read_line.ensures.fault in
    let p = err_from_is_err_and c.from_residual.result c.from_residual.ensures.1 in
    let read : MatchResult c.from_residual.result (IsRead text) (IsFaultOf text) = rw (p.1, p.2) fault in
    let told = all_told text c.from_residual.result read in
    record { found = told.0; only = told.1; prints = told.2; fault = told.3 }

pub returns : goal.returns
returns c =
    let text = c.args.text.now in
    let rest : IsReadTo text c.loop-line.number [] c.loop-line.script =
    subst (λ (ls : List (List ℕ)). IsReadTo text c.loop-line.number ls c.loop-line.script) c.in-None.ensures.steps.0 c.loop-line.invariant.0 in
    let read : MatchResult c.ok_or.result (IsRead text) (IsFaultOf text) = rw c.ok_or.ensures.value (whole_read c.loop-line.script rest) in
    let told = all_told text c.ok_or.result read in
    record { found = told.0; only = told.1; prints = told.2; fault = told.3 }
