-- What a situation says of sessions, rows and numbers.
use Rattle.lab_engine.proofs.{States.{none_kept}, Common.{is_none, active, active_after, Agree, all_sessions, ap, arith, begun_after, cond, Contains, Describes, DescribesAll, DescribesDoing, DescribesRows, eqb_tells, inl, inr, is_some, IsRunning, IsSame, IsSome, IsTrue, Level, list_all, LogEvent, map as each, None, Option, option_map, Past, refl, RowStates, RunningTxn, Situation, Some, Statement, subst, sym, Txn, waiting, waiting_after, ℕ, ◌+◌, ◌==◌, ◌∙◌, ◌∷◌, ◌≡◌}}

pub kept_txn : (level : Level) (txn : Option Txn) (running : RunningTxn) → Agree level txn (Some running) → (t : Txn) × (txn ≡ Some t) × IsRunning level t running
kept_txn level None running agree = absurd agree
kept_txn level (Some t) running agree = (t, refl, agree)

pub kept_none : (level : Level) (txn : Option Txn) → Agree level txn None → txn ≡ None
kept_none level None agree = refl
kept_none level (Some t) agree = absurd agree

-- where one is kept, the session has an active transaction
pub running_txn : {level : Level} (past : Past) {session : ℕ} {held : Option Statement} {kept : Option RunningTxn} (running : RunningTxn) → DescribesDoing level past session held kept → kept ≡ Some running
    → (txn : Txn) × (active past session ≡ Some txn) × IsRunning level txn running
running_txn {level} past {session} running d is = kept_txn level (active past session) running (subst (Agree level (active past session)) is d.running)

-- where no state waits, no session does
pub nobody_waits : {level : Level} (past : Past) (situation : Situation) → Describes level past situation → IsTrue (list_all (λ state. is_none state.waits) situation.sessions) → (session : ℕ) → waiting past session ≡ None
nobody_waits past situation is all session = sym (is.states session).waits ∙ none_kept (λ state. state.waits) situation.sessions all session

pub some_agree : (level : Level) (txn : Option Txn) (running : Option RunningTxn) → Agree level txn running → is_some running ≡ is_some txn
some_agree level None None agree = refl
some_agree level (Some txn) (Some running) agree = refl
some_agree level txn running agree = absurd agree

-- what is made of something is something
pub some_made : {A B : Type 0} (f : A → B) (o : Option A) → is_some (option_map f o) ≡ is_some o
some_made f None = refl
some_made f (Some x) = refl

-- who has something after an event of a session is that session, or had something before
still_sessions : {A : Type 0} (own : ℕ) (after before : ℕ → Option A) → Contains all_sessions own → ((session : ℕ) → IsSome (before session) → Contains all_sessions session)
    → (session : ℕ) → IsSome (cond (own == session) (after session) (before session)) → Contains all_sessions session
still_sessions own after before there are session some = elim (eqb_tells own session) [
  | inl p ↦ subst (λ n. Contains all_sessions n) p.1 there
  | inr p ↦ are session (subst (λ b. IsSome (cond b (after session) (before session))) p.0 some)
]

-- a situation goes on by an event where its parts do
pub goes_on : {level : Level} (past : Past) (event : LogEvent) (old new : Situation) → Describes level past old → Contains all_sessions event.session → each (λ state. state.session) new.sessions ≡ all_sessions
    → DescribesAll level (event ∷ past) new.sessions → DescribesRows (event ∷ past) new.rows
    → new.begun ≡ begun_after event.outcome old.begun → new.events ≡ old.events + 1 → Describes level (event ∷ past) new
goes_on past event old new is own sessions states rows begins counted = record {
  sessions = sessions;
  states = states;
  active_is = still_sessions event.session (λ s. active_after event.command event.outcome past (active past s)) (active past) own is.active_is;
  waiting_is = still_sessions event.session (λ s. waiting_after event.command event.outcome (waiting past s)) (waiting past) own is.waiting_is;
  rows = rows;
  begun = begins ∙ ap (begun_after event.outcome) is.begun;
  events = omega (arith, counted, is.events);
}

-- the parts of a situation that agree with a log may be others that do
pub same_log : {level : Level} (past : Past) (old new : Situation) → Describes level past old → each (λ state. state.session) new.sessions ≡ all_sessions → DescribesAll level past new.sessions
    → DescribesRows past new.rows → new.begun ≡ old.begun → new.events ≡ old.events → Describes level past new
same_log {level} past old new is sessions states rows begins counted = record {
  sessions = sessions;
  states = states;
  active_is = is.active_is;
  waiting_is = is.waiting_is;
  rows = rows;
  begun = begins ∙ is.begun;
  events = counted ∙ is.events;
}

-- where the same is installed and pending, the rows agree with the log as before
pub same_rows : (past : Past) (old new : RowStates) → IsSame old new → DescribesRows past old → DescribesRows past new
same_rows past old new same is = record {
  chains = λ row. same.chain row ∙ is.chains row;
  pending = λ row session. same.pending row session ∙ is.pending row session;
}
