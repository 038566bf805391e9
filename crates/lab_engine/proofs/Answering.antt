-- What a session gives, and what the rules answer to it.
use Rattle.std.specs.{Prelude.{MatchOption, Result, IfOk, Contains, is_some, false}, declared.alloc.AllocError.{AllocError}}
use Rattle.lab_engine.proofs.Common.{active, Answers, ap, AreBlockers, arith, asked, Asks, Bool, both_ways, Command, Commit, Conflict, conflict_fault, ConflictKind, Deadlock, DuplicateKey, Gives, IfOk-weaker, inl, inr, IsCircle, IsFirstConflict, IsFree, IsLeastCircle, IsResultOn, Level, List, Listed, MayAsk, MayCommit, MayGive, None, none_of, none_some, Option, Outcome, OutOfRange, Past, Read, refl, Refused, Row, Run, seen, Some, Statement, subst, sym, Table, Txn, Version, waiting, Waits, Write, [], ℕ, ◌∙◌, ◌≡◌, ◌≢◌}

-- a command that runs no statement is given at rest
at_rest : (past : Past) (session : ℕ) (command : Command) → asked command ≡ None → MayGive past session command → waiting past session ≡ None
at_rest past session command isnt (inl none) = none
at_rest past session command isnt (inr held) = none_some _ (sym isnt ∙ ap asked held.2)

pub gives : (past : Past) (session : ℕ) (command given : Command) (txn : Txn) → command ≡ given → asked given ≡ None → MayGive past session command → active past session ≡ Some txn
    → Gives past session command given txn
gives past session command given txn is isnt may has = record { command_is = is; at_rest = at_rest past session command (ap asked is ∙ isnt) may; active_is = has }

-- a session that gives a statement may ask for it
pub may_ask : (past : Past) (session : ℕ) (command : Command) (s : Statement) → asked command ≡ Some s → MayGive past session command → MayAsk past session s
may_ask past session command s is (inl none) = inl none
may_ask past session command s is (inr held) = inr (held.1 ∙ sym (ap asked held.2) ∙ is)

-- where no statement of a session waits
pub at_ease : (past : Past) (session : ℕ) (waits : Bool) → waits ≡ is_some (waiting past session) → waits ≡ false → waiting past session ≡ None
at_ease past session waits is off = none_of (waiting past session) (both_ways _ (sym is ∙ off))

-- ---- statements

-- what a search for a cycle found
abbrev Searched : Level → Table → Past → ℕ → Statement → Option (List ℕ) → Type 0
Searched level setup past session s found = MatchOption found ((circle : List ℕ) → ¬ IsCircle level setup past session s circle) (IsLeastCircle level setup past session s)

module _ (level : Level) (setup : Table) (past : Past) (session : ℕ) (s : Statement) (txn : Txn) (asks : Asks past session (Run s) s txn) where
  module _ (free : IsFree level setup past session s) where
    result_answers : (outcome : Outcome) → IsResultOn (seen level setup past txn) s outcome → Answers level setup past session (Run s) outcome
    result_answers (Listed view rows writes) f = ((s, txn, asks, free, f), (λ eq. cc), λ t run circle eq. cc)
    result_answers (Refused (DuplicateKey row)) f = ((s, txn, asks, free, f.0, f.1), (λ eq. cc), λ t run circle eq. cc)
    result_answers (Refused (OutOfRange row)) f = ((s, txn, asks, free, f.0, f.1, f.2), (λ eq. cc), λ t run circle eq. cc)
    result_answers other f = absurd f

    -- what is true of rows as they are shown is so of them as the transaction sees them
    pub unblocked_answers : (shown : Row → Version) → ((row : Row) → shown row ≡ seen level setup past txn row) → (r : Result Outcome AllocError) → IfOk r (IsResultOn shown s)
        → IfOk r (Answers level setup past session (Run s))
    unblocked_answers shown sight r f = IfOk-weaker r (IsResultOn (seen level setup past txn) s) (Answers level setup past session (Run s)) result_answers
        (subst (λ sees. IfOk r (IsResultOn sees s)) (λ i row. sight row i) f)

  module _ (on : List ℕ) (blockers : AreBlockers level setup past session s on) where
    -- where nobody blocks it the statement is free
    pub nobody_blocks : on ≡ [] → IsFree level setup past session s
    nobody_blocks none other blocked =
        let has : Contains [] other = subst (λ (l : List ℕ). Contains l other) none ((blockers.are other).1 blocked) in
        absurd (omega (arith, has.1))

    -- it waits where no cycle was found
    pub waits_answers : on ≢ [] → (found : Option (List ℕ)) → found ≡ None → Searched level setup past session s found → Answers level setup past session (Run s) (Waits on)
    waits_answers some found is searched =
        ((s, txn, asks, blockers.rising, blockers.are, some, subst (Searched level setup past session s) is searched), (λ eq. cc), λ t run circle eq. cc)

  -- it is refused where one was
  pub deadlock_answers : (circle : List ℕ) (found : Option (List ℕ)) → found ≡ Some circle → Searched level setup past session s found
      → Answers level setup past session (Run s) (Refused (Deadlock circle))
  deadlock_answers circle found is searched = ((s, txn, asks, least.is_circle), (λ eq. cc), λ t run other eq. named t run other eq)
    where
      least : IsLeastCircle level setup past session s circle
      least = subst (Searched level setup past session s) is searched

      named : (t : Statement) → Run s ≡ Run t → (other : List ℕ) → Refused (Deadlock circle) ≡ Refused (Deadlock other) → IsLeastCircle level setup past session t other
      named t run other eq =
          let same : s ≡ t = cc in
          let alike : circle ≡ other = cc in
          subst (λ k. IsLeastCircle level setup past session k other) same (subst (IsLeastCircle level setup past session s) alike least)

-- a session with an active transaction asks for a statement that it may ask for
pub asking : {past : Past} {session : ℕ} (s : Statement) (txn : Txn) → MayAsk past session s → active past session ≡ Some txn → Asks past session (Run s) s txn
asking s txn may has = record { command_is = refl; may_ask = may; active_is = has }

-- what the rules say of a commit, where they found no conflict and where they found one
abbrev Looked : Level → Table → Past → Txn → Option Conflict → Type 0
Looked level setup past txn found = MatchOption found (MayCommit level setup past txn) (λ c. IsFirstConflict level setup past txn c.kind c.row c.by)

module _ (level : Level) (setup : Table) (past : Past) (txn : Txn) (found : Option Conflict) where
  pub conflict_none : found ≡ None → Looked level setup past txn found → MayCommit level setup past txn
  conflict_none none looked = subst (Looked level setup past txn) none looked

  pub conflict_some : (session : ℕ) (command : Command) (conflict : Conflict) → found ≡ Some conflict → Looked level setup past txn found → Gives past session command Commit txn
      → Answers level setup past session command (Refused (conflict_fault conflict.kind conflict.row conflict.by))
  conflict_some session command conflict some looked gives = at conflict.kind (subst (Looked level setup past txn) some looked)
    where
      at : (kind : ConflictKind) → IsFirstConflict level setup past txn kind conflict.row conflict.by → Answers level setup past session command (Refused (conflict_fault kind conflict.row conflict.by))
      at Write first = ((txn, gives, first), (λ eq. cc), λ s run circle eq. cc)
      at Read first = ((txn, gives, first), (λ eq. cc), λ s run circle eq. cc)

-- what is answered to a statement is answered to the command that runs it
pub ran : (level : Level) (setup : Table) (past : Past) (session : ℕ) (r : Result Outcome AllocError) (command given : Command) → command ≡ given
    → IfOk r (Answers level setup past session given) → IfOk r (Answers level setup past session command)
ran level setup past session r command given is ok = subst (λ (c : Command). IfOk r (Answers level setup past session c)) (sym is) ok
