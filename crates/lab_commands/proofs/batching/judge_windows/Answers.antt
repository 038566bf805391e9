use Rattle.std.{proofs.Common.{◌≡◌, ◌≤◌, ℕ, List, [], ◌++◌, length, map, take, sym, subst, arith, rules}, specs.Prelude.{max}}
use Rattle.lab_commands.{specs.Batching.{IsBatchAnswer}, proofs.BatchWindows.{none_said, both_said, front_and_window}}
use Rattle.lab_commands.proofs.batching.judge_windows.Goals as goal

pub loop-done-init : goal.loop-done-init
loop-done-init g c = (omega arith, [], subst (λ t. IsBatchAnswer c.args.wanted [] [] t 0) (sym c.new.ensures.items) (none_said c.args.wanted))

pub loop-done-preserved : goal.loop-done-preserved
loop-done-preserved g c =
    let so_far = c.loop-done.invariant in
    let window = c.in_ok-judge_window.ensures in
    let within : c.min-end.result ≤ length c.args.names.now = search rules in
    let further : c.loop-done.done ≤ c.min-end.result = search rules in
    let inputs = so_far.1 ++ window.0 in
    let text = c.loop-done.judged.text.items ++ window.1 in
    let status = max c.loop-done.judged.status window.2 in
    let names = map (λ name. name.now) (take c.min-end.result c.args.names.now) in
    let both = both_said c.args.wanted _ _ so_far.1 window.0 _ _ _ _ so_far.2 window.3 in
    let of_names : IsBatchAnswer c.args.wanted names inputs text status
    = subst (λ ns. IsBatchAnswer c.args.wanted ns inputs text status) (front_and_window (λ name. name.now) c.args.names.now c.loop-done.done c.min-end.result further) both in (
      within,
      inputs,
      subst (λ t. IsBatchAnswer c.args.wanted names inputs t c.judge_window.new.judged.status) (sym window.4) (subst (λ s. IsBatchAnswer c.args.wanted names inputs text s) (sym window.5) of_names),
    )
