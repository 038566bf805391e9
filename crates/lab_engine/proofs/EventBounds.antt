-- Nothing that a log tells is more than its events are.
use Rattle.lab_engine.proofs.{Common.{active, Agree, arith, Begun, begun, begun_after, DescribesSession, HasRoom, length, Level, None, Option, Outcome, Past, refl, RunningTxn, SessionState, Some, Txn, ℕ, [], ◌+◌, ◌<◌, ◌∷◌, ◌≡◌, ◌≤◌}, LockSteps.{each_active}}

-- an active transaction has run at most as many operations as there were events
at_most : (past : Past) (session : ℕ) (txn : Txn) → active past session ≡ Some txn → length txn.ops ≤ length past
at_most = each_active (λ past session txn. length txn.ops ≤ length past) (λ past e n command. omega arith) (λ past e s view rows writes txn own most. omega (arith, most))
    (λ past e session command outcome txn leaves own most. omega (arith, most))

-- an event begins at most one
pub begun_more : (outcome : Outcome) (n : ℕ) → (n ≤ begun_after outcome n) × (begun_after outcome n ≤ n + 1)
begun_more (Begun number) n = (omega arith, omega arith)
begun_more other n = (omega arith, omega arith)

-- at most as many transactions have begun as there were events
pub begun_at_most : (past : Past) → begun past ≤ length past
begun_at_most [] = omega arith
begun_at_most (event ∷ past) = let more = begun_more event.outcome (begun past) in omega (arith, more.1, begun_at_most past)

-- what is kept of a session has room for one more operation
pub has_room : {level : Level} (past : Past) (state : SessionState) → DescribesSession level past state → length past < 100000 → HasRoom state.running
has_room {level} past state is few = at (active past state.session) state.running refl is.running
  where
    at : (txn : Option Txn) (running : Option RunningTxn) → active past state.session ≡ txn → Agree level txn running → HasRoom running
    at txn None own agree = tt
    at None (Some running) own agree = absurd agree
    at (Some txn) (Some running) own agree = omega (arith, agree.operations, at_most past state.session txn own, few)
