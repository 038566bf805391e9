use Rattle.std.proofs.Common.{[], ◌<◌, length}
use Rattle.lab_streams.specs.Input.{Takes, max_input_bytes}
use Rattle.lab_streams.proofs.input.read_input.Given as goal

abbrev pub invariant-loop : goal.invariant-loop
invariant-loop g l =
    (length l.bytes.items < max_input_bytes) × Takes (g.R.Read.remaining l.fn.reader) (g.R.Read.remaining l.reader) [] l.bytes.items
