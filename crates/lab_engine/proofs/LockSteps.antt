-- What an event of a session does to the active transactions.
pub use Rattle.lab_engine.proofs.Common.{none_some}
use Rattle.lab_engine.proofs.Common.{active, active_after, Begun, Command, Committed, cond, eqb_tells, false, grown, inl, inr, is_fatal, Listed, None, Option, Outcome, Past, refl, Refused, Rows, Run, same_Some, Some, Statement, subst, sym, true, Txn, View, Waits, Writes, [], ℕ, ⊤, ◌==◌, ◌∙◌, ◌∷◌, ◌≡◌, ◌≢◌, ◌⊎◌}

-- an active transaction after an event: that of the event's session, or of another one, which stays
pub split : (e s : ℕ) (x y : Option Txn) (t : Txn) → cond (e == s) x y ≡ Some t → ((e ≡ s) × (x ≡ Some t)) ⊎ ((e ≢ s) × (y ≡ Some t))
split e s x y t h = elim (eqb_tells e s) [
  | inl p ↦ inl (p.1, subst (λ b. cond b x y ≡ Some t) p.0 h)
  | inr p ↦ inr (p.1, subst (λ b. cond b x y ≡ Some t) p.0 h)
]

-- an event by which nothing begins, runs or commits
abbrev pub Leaves : Outcome → Command → Type 0
Leaves (Begun n) command = ⊥
Leaves (Listed view rows writes) (Run s) = ⊥
Leaves Committed command = ⊥
Leaves other command = ⊤

-- who is active after it was active before
pub was_active : (command : Command) (outcome : Outcome) (past : Past) (before : Option Txn) (t : Txn) → Leaves outcome command → active_after command outcome past before ≡ Some t → before ≡ Some t
was_active command (Begun n) past before t leaves h = absurd leaves
was_active (Run s) (Listed view rows writes) past before t leaves h = absurd leaves
was_active command (Listed view rows writes) past None t leaves h = none_some _ h
was_active command (Listed view rows writes) past (Some u) t leaves h = h
was_active command (Waits on) past before t leaves h = h
was_active command (Refused fault) past before t leaves h = elim (is_fatal fault) as (λ b. cond b None before ≡ Some t → before ≡ Some t) [ true ↦ λ none. none_some _ none | false ↦ λ same. same ] h
was_active command other past before t leaves h = none_some _ h

-- a transaction that has run nothing
abbrev pub fresh : ℕ → Past → Txn
fresh n past = record { no = n; ops = []; before = past }

-- what holds of each active transaction where it holds of one that begins, still holds of one that runs an operation, and of one that an event leaves
module _ (P : Past → ℕ → Txn → Type 0)
    (begins : (past : Past) (e n : ℕ) (command : Command) → P (record { session = e; command = command; outcome = Begun n } ∷ past) e (fresh n past))
    (grows : (past : Past) (e : ℕ) (s : Statement) (view : View) (rows : Rows) (writes : Writes) (t : Txn) → active past e ≡ Some t → P past e t
    → P (record { session = e; command = Run s; outcome = Listed view rows writes } ∷ past) e (grown t (record { statement = s; view = view; rows = rows; writes = writes })))
    (stays : (past : Past) (e session : ℕ) (command : Command) (outcome : Outcome) (t : Txn) → (e ≢ session) ⊎ Leaves outcome command → active past session ≡ Some t → P past session t
    → P (record { session = e; command = command; outcome = outcome } ∷ past) session t) where
  own : (past : Past) (e : ℕ) (command : Command) (outcome : Outcome) (before : Option Txn) (t : Txn) → active past e ≡ before → ((u : Txn) → active past e ≡ Some u → P past e u)
      → active_after command outcome past before ≡ Some t → P (record { session = e; command = command; outcome = outcome } ∷ past) e t
  own past e command (Begun n) before t at all is =
      subst (P (record { session = e; command = command; outcome = Begun n } ∷ past) e) (same_Some (fresh n past) t is) (begins past e n command)
  own past e (Run s) (Listed view rows writes) None t at all is = none_some _ is
  own past e (Run s) (Listed view rows writes) (Some u) t at all is =
      subst (P (record { session = e; command = Run s; outcome = Listed view rows writes } ∷ past) e)
      (same_Some (grown u (record { statement = s; view = view; rows = rows; writes = writes })) t is) (grows past e s view rows writes u at (all u at))
  own past e command Committed before t at all is = none_some _ is
  own past e command other before t at all is =
      let was : active past e ≡ Some t = at ∙ was_active command other past before t tt is in stays past e e command other t (inr tt) was (all t was)

  pub each_active : (past : Past) (session : ℕ) (t : Txn) → active past session ≡ Some t → P past session t
  each_active [] session t is = none_some _ is
  each_active (event ∷ past) session t is = elim (split event.session session _ _ t is) [
    | inl p ↦ subst (λ k. P (event ∷ past) k t) p.0 (own past event.session event.command event.outcome (active past event.session) t refl (each_active past event.session)
        (subst (λ k. active_after event.command event.outcome past (active past k) ≡ Some t) (sym p.0) p.1))
    | inr p ↦ stays past event.session session event.command event.outcome t (inl p.0) p.1 (each_active past session t p.1)
  ]
