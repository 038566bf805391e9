use Rattle.std.proofs.Common.{◌≡◌, flat_map}
use Rattle.std.specs.String.{string_bytes}
use Rattle.lab_hints.specs.Shown.{shown_bytes}
use Rattle.lab_hints.proofs.shown.shown_text.Given as goal

abbrev pub invariant-loop-sign : goal.invariant-loop-sign
invariant-loop-sign l = string_bytes l.shown ≡ flat_map (shown_bytes l.fn.instead) l.yielded
