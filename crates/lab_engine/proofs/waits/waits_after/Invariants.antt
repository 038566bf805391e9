use Rattle.lab_engine.proofs.{Common.{AreWaits, Describes, IsLegal, Past, ◌∷◌}, Waiting.{AreWaitsOf}}
use Rattle.lab_engine.proofs.waits.waits_after.Given as goal

-- what the sessions so far wait for
abbrev pub invariant-loop-state : goal.invariant-loop-state
invariant-loop-state g l = (past : Past) → Describes g.R.Rules.kind (l.event ∷ past) l.situation → IsLegal g.R.Rules.kind l.setup (l.event ∷ past) → AreWaits g.R.Rules.kind l.setup past l.situation.waits
    → AreWaitsOf g.R.Rules.kind l.setup (l.event ∷ past) l.state-index l.waits
