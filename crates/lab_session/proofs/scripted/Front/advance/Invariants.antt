use Rattle.std.proofs.Common.{◌≡◌}
use Rattle.lab_engine.specs.{Log.{Past}, Recording.{given}}
use Rattle.lab_session.specs.UnderWay.{AreCounts, IsBehind, IsCovered}
use Rattle.lab_session.proofs.scripted.Front.advance.Given as goal

-- the lines so far have been given
abbrev pub invariant-loop-place : goal.invariant-loop-place
invariant-loop-place l = record {
  place : l.self.lines ≡ l.place;
  behind : IsBehind l.lines l.self;
  covered : (past : Past) → AreCounts (given past) l.counts → IsCovered past l.fn.self → IsCovered past l.self;
}
