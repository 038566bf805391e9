use Rattle.std.proofs.Common.{◌≡◌, ◌∙◌, ◌≤◌, None, length, sym, ap, subst}
use Rattle.lab_history.specs.{History.{History}, HistoryRules.{operations}, Limits.{max_operations}}
use Rattle.lab_cut.{specs.{Kept.{kept_in, all_kept, last_given}, Cut.{left_initial, left_txns, left_installed, left_end, cut}, PartOf.{IsPartOf}}, proofs.CutParts.{cut_part}}
use Rattle.lab_cut.proofs.operations.left_parts.Goals as goal

pub of-requires : goal.of-requires
of-requires c = subst (λ ts. length (operations ts) ≤ max_operations) (sym (c.as_slice-txns.ensures ∙ c.txns.ensures.value)) c.txns.ensures.keeps.few_operations

pub returns : goal.returns
returns c =
    let h = c.args.history.now in
    let mask = c.args.kept.now in
    let moves = kept_in c.in_ok-moves.moves in
    let slice = c.as_slice-txns.ensures ∙ c.txns.ensures.value in
    let same : moves ≡ last_given None (all_kept mask h.txns) = λ i n. (c.in_ok-moves.ensures n ∙ ap (λ ts. last_given None (all_kept mask ts) n) slice) i in
    let initial = c.initial.view_is ∙ c.in_ok-initial.ensures ∙ ap (λ k. left_initial k h) same in
    let txns = c.new.ensures ∙ c.in_ok-left_txns.ensures ∙ ap (left_txns moves mask) slice ∙ ap (λ k. left_txns k mask h.txns) same in
    let installed = c.in_ok-installed.ensures ∙ ap (λ k. left_installed k h) same in
    let ends = c.in_ok-end_table.ensures ∙ ap (λ k. left_end k h) same in
    let parts : History = record { initial = c.initial.inside.rows; txns = c.new.result; installed = c.in_ok-installed.installed; end_table = c.in_ok-end_table.end_table } in
    let exact : parts ≡ cut mask h = λ i. record { initial = initial i; txns = txns i; installed = installed i; end_table = ends i } in
    record {
      exact = exact;
      part = subst (λ p. IsPartOf p h) (sym exact) (cut_part mask h c.txns.ensures.keeps);
    }
