-- What is kept of a session and of the rows goes on by an event of the session.
use Rattle.lab_engine.proofs.Common.{Aborted, active, active_after, Agree, AlreadyBegun, ap, arith, Bool, both_ways, Busy, cases_eq, chain_after, chain_in, Committed, cond, DescribesRows, DescribesSession, eq-eqb, false, grown, has_written, inl, inr, is_none, is_over, is_some, IsRunning, keeps_statements, length, Level, List, Listed, LogEvent, longer, map as each, ne_eqb, None, none_of, NoTransaction, Op, Option, option_to_list, Outcome, Past, pending_in, refl, Refused, reverse, reverse-append, Row, Rows, RowStates, Run, RunningTxn, SessionState, Some, State, Statement, statements_of, subst, sym, true, true≢false, Txn, Version, version_by, version_or, View, waiting, waiting_after, Writes, written_by, [], ℕ, ◌&&◌, ◌++◌, ◌+◌, ◌==◌, ◌||◌, ◌∙◌, ◌∷◌, ◌≡◌, get}

-- ---- one more operation

-- a row is written then, if it was or is
written_then : (number place : ℕ) (written : Option State) (old : Option Version) → (is_some old || (is_some written && is_none old)) ≡ is_some (version_or number place written old)
written_then number place None None = refl
written_then number place (Some state) None = refl
written_then number place written old = refl

-- the statements that are kept then
kept_then : (keeps : Bool) (kept : Option Statement) (s : Statement) (ran : List Statement) → kept ≡ cond keeps (Some s) None
    → cond keeps (reverse ran) [] ++ option_to_list kept ≡ cond keeps (reverse (s ∷ ran)) []
kept_then true kept s ran is = ap (λ k. reverse ran ++ option_to_list k) is ∙ sym (reverse-append (s ∷ []) ran)
kept_then false kept s ran is = ap option_to_list is

-- a transaction has run an operation more
pub runs_on : (level : Level) (txn : Txn) (op : Op) (old new : RunningTxn) → IsRunning level txn old → new.number ≡ old.number → new.before ≡ old.before → new.operations ≡ old.operations + 1
    → (kept : Option Statement) → kept ≡ cond (keeps_statements level) (Some op.statement) None → statements_of new ≡ statements_of old ++ option_to_list kept
    → ((row : Row) → has_written new row ≡ (has_written old row || (is_some (get op.writes row) && is_none (version_by txn row)))) → IsRunning level (grown txn op) new
runs_on level txn op old new running number before more kept is statements written = record {
  number = number ∙ running.number;
  before = before ∙ running.before;
  operations = omega (arith, more, running.operations);
  statements = statements ∙ ap (λ l. l ++ option_to_list kept) running.statements ∙ kept_then (keeps_statements level) kept op.statement (each (λ op. op.statement) txn.ops) is;
  written = λ row.
      written row ∙ ap (λ b. b || (is_some (get op.writes row) && is_none (version_by txn row))) (running.written row)
      ∙ written_then txn.no (length txn.ops + 1) (get op.writes row) (version_by txn row);
}

-- ---- a session that an event is of

module _ {level : Level} (past : Past) (event : LogEvent) (old : SessionState) (rows : RowStates) (place : ℕ) (own : event.session ≡ old.session) (at : place ≡ length past)
    (is : DescribesSession level past old × DescribesRows past rows) where
  -- the session's transaction before and after an outcome
  abbrev was : Option Txn
  was = active past old.session

  abbrev next : Outcome → Option Txn
  next outcome = active_after event.command outcome past was

  -- what is kept of the session and the rows follows an outcome
  abbrev Follow : Option Statement → Option RunningTxn → RowStates → Outcome → Type 0
  Follow waits running new outcome = (waits ≡ waiting_after event.command outcome old.waits) × Agree level (next outcome) running
      × ((row : Row) → chain_in new row ≡ chain_after outcome was place row (chain_in rows row))
      × ((row : Row) (n : ℕ) → pending_in new row n ≡ cond (n == old.session) (written_by (next outcome) row) (pending_in rows row n))

  -- where they do, they agree with the log with the event
  pub follows : (waits : Option Statement) (running : Option RunningTxn) (new : RowStates) (outcome : Outcome) → event.outcome ≡ outcome → Follow waits running new outcome
      → DescribesSession level (event ∷ past) (record { session = old.session; waits = waits; running = running }) × DescribesRows (event ∷ past) new
  follows waits running new outcome same follow =
      let f : Follow waits running new event.outcome = subst (Follow waits running new) (sym same) follow in (
        record {
          waits = f.0 ∙ ap (waiting_after event.command event.outcome) is.0.waits
              ∙ sym (ap (λ b. cond b (waiting_after event.command event.outcome (waiting past old.session)) (waiting past old.session)) (eq-eqb event.session old.session own));
          running = subst (λ b. Agree level (cond b (next event.outcome) was) running) (sym (eq-eqb event.session old.session own)) f.1;
        },
        record {
          chains = λ row. f.2 row ∙ (λ i. chain_after event.outcome (active past ((sym own) i)) (at i) row (is.1.chains row i));
          pending = λ row n. f.3 row n ∙ elim (cases_eq n old.session) [
            | inl same ↦ subst (λ m. cond (m == old.session) (written_by (next event.outcome) row) (pending_in rows row m) ≡ written_by (active (event ∷ past) m) row) (sym same)
                (ap (λ b. cond b (written_by (next event.outcome) row) (pending_in rows row old.session)) (eq-eqb old.session old.session refl)
                ∙ sym (ap (λ b. written_by (cond b (next event.outcome) was) row) (eq-eqb event.session old.session own)))
            | inr apart ↦
                ap (λ b. cond b (written_by (next event.outcome) row) (pending_in rows row n)) (ne_eqb n old.session apart) ∙ is.1.pending row n
                ∙ sym (ap (λ b. written_by (cond b (active_after event.command event.outcome past (active past n)) (active past n)) row)
                (ne_eqb event.session n (λ same. apart (sym same ∙ own))))
          ];
        },
      )

  -- what a session had pending is given up where its transaction is over by no commit
  pub abandons : (new : RowStates) (outcome : Outcome) → is_over outcome ≡ true → (outcome ≡ Committed → ⊥) → ((row : Row) → chain_in new row ≡ chain_in rows row)
      → ((row : Row) (n : ℕ) → pending_in new row n ≡ cond (n == old.session) None (pending_in rows row n)) → Follow None None new outcome
  abandons new Committed over apart chains pending = absurd (apart refl)
  abandons new Aborted over apart chains pending = (refl, tt, chains, pending)
  abandons new (Refused NoTransaction) over apart chains pending = absurd (true≢false (sym over))
  abandons new (Refused AlreadyBegun) over apart chains pending = absurd (true≢false (sym over))
  abandons new (Refused Busy) over apart chains pending = absurd (true≢false (sym over))
  abandons new (Refused fault) over apart chains pending = (refl, tt, chains, pending)
  abandons new other over apart chains pending = absurd (true≢false (sym over))

-- ---- a transaction that ends

module _ (rows : RowStates) (session : ℕ) where
  -- what a session has pending is what its transaction, if any, has written
  abbrev pub IsPending : Option Txn → Type 0
  IsPending txn = (row : Row) → pending_in rows row session ≡ written_by txn row

  -- where it has nothing pending, nothing is to be settled
  nothing_there : (row : Row) (n : ℕ) → pending_in rows row session ≡ None → pending_in rows row n ≡ cond (n == session) None (pending_in rows row n)
  nothing_there row n none = elim (cases_eq n session) [
    | inl same ↦ ap (pending_in rows row) same ∙ none ∙ sym (ap (λ b. cond b None (pending_in rows row n)) (eq-eqb n session same))
    | inr apart ↦ sym (ap (λ b. cond b None (pending_in rows row n)) (ne_eqb n session apart))
  ]

  -- what is settled of the rows that it wrote is settled of all
  pub all_settled : (level : Level) (txn : Option Txn) (running : RunningTxn) → Agree level txn (Some running) → IsPending txn → (row : Row) (n : ℕ)
      → cond (has_written running row && n == session) None (pending_in rows row n) ≡ cond (n == session) None (pending_in rows row n)
  all_settled level None running agree had row n = absurd agree
  all_settled level (Some t) running agree had row n =
      elim (has_written running row) as (λ b. has_written running row ≡ b → cond (b && n == session) None (pending_in rows row n) ≡ cond (n == session) None (pending_in rows row n)) [
        | true ↦ λ is. refl
        | false ↦ λ is. nothing_there row n (had row ∙ none_of (version_by t row) (both_ways _ (sym (agree.written row) ∙ is)))
      ] refl

  pub none_settled : (level : Level) (txn : Option Txn) → Agree level txn None → IsPending txn → (row : Row) (n : ℕ) → pending_in rows row n ≡ cond (n == session) None (pending_in rows row n)
  none_settled level None agree had row n = nothing_there row n (had row)
  none_settled level (Some t) agree had row n = absurd agree

  -- a commit puts what it wrote onto the chains
  pub installs_all : (level : Level) (txn : Option Txn) (running : RunningTxn) (place : ℕ) → Agree level txn (Some running) → IsPending txn → (row : Row)
      → cond (has_written running row) (longer running.number place (pending_in rows row session) (chain_in rows row)) (chain_in rows row) ≡ chain_after Committed txn place row (chain_in rows row)
  installs_all level None running place agree had row = absurd agree
  installs_all level (Some t) running place agree had row =
      (λ i. cond (agree.written row i) (longer (agree.number i) place (had row i) (chain_in rows row)) (chain_in rows row)) ∙ at (version_by t row)
    where
      at : (o : Option Version) → cond (is_some o) (longer t.no place o (chain_in rows row)) (chain_in rows row) ≡ longer t.no place o (chain_in rows row)
      at None = refl
      at (Some v) = refl

  pub installs_none : (level : Level) (txn : Option Txn) (place : ℕ) → Agree level txn None → (row : Row) → chain_in rows row ≡ chain_after Committed txn place row (chain_in rows row)
  installs_none level None place agree row = refl
  installs_none level (Some t) place agree row = absurd agree

-- ---- after an operation

-- a transaction that runs a statement
pub runs_agree : (level : Level) (s : Statement) (past : Past) (view : View) (rows : Rows) (writes : Writes) (txn : Option Txn) (old new : RunningTxn) → Agree level txn (Some old)
    → (pending : Row → Option Version) → ((row : Row) → pending row ≡ written_by txn row)
    → ((t : Txn) (op : Op) → IsRunning level t old → ((row : Row) → pending row ≡ version_by t row) → op.statement ≡ s → op.writes ≡ writes → IsRunning level (grown t op) new)
    → Agree level (active_after (Run s) (Listed view rows writes) past txn) (Some new)
runs_agree level s past view rows writes None old new agree pending had run = absurd agree
runs_agree level s past view rows writes (Some t) old new agree pending had run = run t (record { statement = s; view = view; rows = rows; writes = writes }) agree had refl refl
