-- A log keeps a place for the end of each active transaction.
use Rattle.lab_engine.proofs.Common.{active, active_after, active_among, ap, arith, Bool, Command, cond, Contains, eq-eqb, false, is_ending, is_some, IsSome, length, List, LogEvent, None, Option, Outcome, Past, ReadConflict, refl, Refused, subst, suc, sym, true, Txn, WriteConflict, zero, [], ℕ, ◌+◌, ◌==◌, ◌∙◌, ◌∷◌, ◌≡◌, ◌≤◌}
use Rattle.std.proofs.lemmas.List.Sums.{count_by-le-length, sum_by-cons, sum_by-le-sum_by}

-- 1 where a transaction is active, else 0
abbrev weight : Option Txn → ℕ
weight txn = cond (is_some txn) 1 0

-- at most as many sessions have an active transaction as there are
pub few_active : (past : Past) (sessions : List ℕ) → active_among past sessions ≤ length sessions
few_active past sessions = count_by-le-length (λ session. is_some (active past session)) sessions

none_after : (command : Command) (outcome : Outcome) (past : Past) (txn : Option Txn) → is_ending outcome ≡ true → active_after command outcome past txn ≡ None
none_after command (Refused (WriteConflict row by)) past txn ending = refl
none_after command (Refused (ReadConflict row by)) past txn ending = refl
none_after command other past txn ending = cc

no_more : (b : Bool) (after before : Option Txn) → after ≡ None → weight (cond b after before) ≤ weight before
no_more true after before gone = omega (arith, ap weight gone)
no_more false after before gone = omega arith

module _ (past : Past) (event : LogEvent) (ending : is_ending event.outcome ≡ true) where
  gone : (session : ℕ) → active_after event.command event.outcome past (active past session) ≡ None
  gone session = none_after event.command event.outcome past (active past session) ending

  fewer_one : (session : ℕ) → weight (active (event ∷ past) session) ≤ weight (active past session)
  fewer_one session = no_more (event.session == session) (active_after event.command event.outcome past (active past session)) (active past session) (gone session)

  -- one session and others
  also : (log : Past) (session : ℕ) (sessions : List ℕ) → active_among log (session ∷ sessions) ≡ weight (active log session) + active_among log sessions
  also log session sessions = sum_by-cons (λ s. weight (active log s)) session sessions

  -- after an end one session fewer has an active transaction
  pub fewer_active : (sessions : List ℕ) → Contains sessions event.session → IsSome (active past event.session) → active_among (event ∷ past) sessions + 1 ≤ active_among past sessions
  fewer_active [] there some = absurd (omega (arith, there.1))
  fewer_active (session ∷ sessions) (zero, few, is) some =
      let off : weight (active (event ∷ past) session) ≡ 0
      = ap weight
      (ap (λ b. cond b (active_after event.command event.outcome past (active past session)) (active past session)) (eq-eqb event.session session (sym is)) ∙ gone session) in
      let on : weight (active past session) ≡ 1 = ap (λ b. cond b 1 0) (subst (λ n. IsSome (active past n)) (sym is) some) in
      let fewer = sum_by-le-sum_by (λ s. weight (active (event ∷ past) s)) (λ s. weight (active past s)) sessions fewer_one in
      omega (arith, also past session sessions, also (event ∷ past) session sessions, off, on, fewer)
  fewer_active (session ∷ sessions) (suc k, few, is) some =
      omega (arith, also past session sessions, also (event ∷ past) session sessions, fewer_one session, fewer_active sessions (k, omega arith, is) some)
