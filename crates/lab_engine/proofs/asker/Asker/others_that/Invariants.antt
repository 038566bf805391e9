use Rattle.lab_engine.{proofs.Common.{Bool, drop, has, RunningTxn, ℕ, ◌||◌, ◌≡◌}, specs.Chosen.{is_chosen}}
use Rattle.lab_engine.proofs.asker.Asker.others_that.Given as goal

-- those so far, and those of the sessions that are left, are those of all
abbrev pub invariant-loop-state : goal.invariant-loop-state
invariant-loop-state g l =
    (passes : ℕ → RunningTxn → Bool) → ((other : ℕ) (running : _) (b : Bool) → goal.F-post g l.test other running b → b ≡ passes other running.now)
    → (n : ℕ) → (has l.others n || is_chosen passes l.self.session (drop l.state-index l.self.situation.now.sessions) n) ≡ is_chosen passes l.self.session l.self.situation.now.sessions n
