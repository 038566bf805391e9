-- How far the calls of a session handle agree with the log, while the log is read.
use Rattle.std.specs.Prelude.{◌≡◌, ℕ, ◌≤◌, List, ◌++◌, length, take, Contains}
use Rattle.lab_session.specs.declared.seat.Call.{Call}
use Rattle.lab_session.specs.declared.comparison.Comparison.{Comparison}
use Rattle.lab_session.specs.declared.comparison.Comparison.TheVariants.{Unseated, Agrees, Differs}
use Rattle.lab_session.specs.Seats.{Seated, DifferFirst}
use Rattle.lab_session.specs.Closing.{seats_of}

-- there are as many calls as have agreed
abbrev pub Fits : Comparison → Type 0
Fits Unseated = Unit {0}
Fits (Agrees calls met) = met ≤ length calls.now
Fits (Differs place) = Unit {0}

-- what a comparison says of the seats of a session, whose calls in a log are `all`, where those of the events not yet walked are `rest`
abbrev pub Says : List Seated → ℕ → List Call → List Call → Comparison → Type 0
Says seats session all rest Unseated = seats_of session seats ≡ 0
Says seats session all rest (Agrees calls met) =
    (seat : Seated) × Contains seats seat × (seat.session ≡ session) × (seat.calls ≡ calls.now) × (met ≤ length calls.now) × (all ≡ take met calls.now ++ rest)
Says seats session all rest (Differs place) = (seat : Seated) × Contains seats seat × (seat.session ≡ session) × DifferFirst seat.calls all place
