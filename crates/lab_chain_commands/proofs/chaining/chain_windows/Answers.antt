use Rattle.std.proofs.Common.{◌≤◌, ◌-◌, ◌≡◌, inl, inr, arith}
use Rattle.lab_streams.proofs.Unchanged.{kept}
use Rattle.lab_chain_commands.proofs.ChainWindows.{told_none, told_further, begun_of}
use Rattle.lab_chain_commands.proofs.chaining.chain_windows.Goals as goal

pub returns-in_default-clause-begun : goal.returns-in_default-clause-begun
returns-in_default-clause-begun g c = inr (begun_of c.args.asked (λ name. name.now) c.args.names.now 0 _ _ _ _ _ (told_none c.args.asked _ _ c.nothing.ensures) (kept _))

pub loop-done-init : goal.loop-done-init
loop-done-init g c =
    let whole : c.min-end.result - 0 ≡ c.min-end.result = omega arith in
    (omega arith, c.min-end.ensures, rw whole c.in-Ok.ensures, told_none c.args.asked _ _ c.nothing.ensures)

pub returns-in_default-window-clause-begun : goal.returns-in_default-window-clause-begun
returns-in_default-window-clause-begun g c = inr (begun_of c.args.asked _ _ c.loop-done.done _ _ _ _ _ c.loop-done.invariant.3 (kept _))

pub returns-in-Err-clause-begun : goal.returns-in-Err-clause-begun
returns-in-Err-clause-begun g c = elim c.in-Err.ensures.silent [
  | inl unwritten ↦ inl unwritten
  | inr keeps ↦ inr (begun_of c.args.asked _ _ c.loop-done.done _ _ _ _ _ c.loop-done.invariant.3 keeps)
]

pub returns-in_default-read-clause-begun : goal.returns-in_default-read-clause-begun
returns-in_default-read-clause-begun g c =
    let so_far = c.loop-done.invariant in
    let judged = rw so_far.2 at (rw c.deref.ensures.value at (rw c.in-Ok-window.is at c.judge_and_read-window.ensures.judged)) in
    let said = c.in-Ok-write_window.ensures in
    let further : c.loop-done.done ≤ c.loop-done.end = omega (arith, so_far.0, so_far.1) in
    let told =
    told_further c.args.asked _ c.args.names.now c.loop-done.done c.loop-done.end _ _ _ _ _ _ _ c.in-Ok-window.window further so_far.3 judged said.written said.summary said.status in
    inr (begun_of c.args.asked _ _ c.loop-done.end _ _ _ _ _ told (kept _))

pub loop-done-preserved : goal.loop-done-preserved
loop-done-preserved g c =
    let so_far = c.loop-done.invariant in
    let judged = rw so_far.2 at (rw c.deref.ensures.value at (rw c.in-Ok-window.is at c.judge_and_read-window.ensures.judged)) in
    let read = rw c.in-Ok-read.is at c.judge_and_read-window.ensures.read in
    let said = c.in-Ok-write_window.ensures in
    let further : c.loop-done.done ≤ c.loop-done.end = omega (arith, so_far.0, so_far.1) in
    let told =
    told_further c.args.asked _ c.args.names.now c.loop-done.done c.loop-done.end _ _ _ _ _ _ _ c.in-Ok-window.window further so_far.3 judged said.written said.summary said.status in
    (omega (arith, so_far.1), c.min-next.ensures, read, told)
