use Rattle.lab_engine.proofs.Common.{ap, arith, length, length_new_states, on_ok_weaker, sym, ◌∙◌}
use Rattle.lab_engine.proofs.session_state.RunningTxn.reserve.Goals as goal

pub returns-clause-places : goal.returns-clause-places
returns-clause-places c =
    let two = c.try_reserve.new.self.ok.0 in
    let rows = sym (length_new_states c.entries.result.now) ∙ ap length c.entries.ensures in
    on_ok_weaker c.try_reserve.result (λ rest. (c.in_ok-reserve_one.ensures.place, omega (arith, rest, two, rows))) c.try_reserve.ensures.ok
