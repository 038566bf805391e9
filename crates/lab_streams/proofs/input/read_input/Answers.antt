use Rattle.std.proofs.Common.{rules}
use Rattle.lab_streams.{specs.Input.{max_input_bytes}, proofs.Taken.{takes_more, read_whole, read_out}}
use Rattle.lab_streams.proofs.input.read_input.Goals as goal

pub returns-in-End : goal.returns-in-End
returns-in-End g c =
    let turn = c.in_ok-read_turn.ensures in
    let took = takes_more _ _ _ _ _ _ c.loop.invariant.1 turn.part in
    let bytes = read_whole max_input_bytes _ _ _ turn.few took (search rules) in
    record { bytes = bytes; taken = read_out max_input_bytes _ _ _ took bytes; fault = search rules }
