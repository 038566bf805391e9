-- What is kept of the sessions, as a list.
use Rattle.lab_engine.proofs.Common.{active, active_after, Agree, all_sessions, and_parts, ap, arith, cases_eq, cond, DescribesAll, DescribesDoing, DescribesSession, eq-eqb, false, get_or, get_or-set_same, inl, inr, is_none, IsTrue, kept_by, length, length-map, length-set, Level, List, list_all, LogEvent, map, ne_eqb, None, Option, Past, refl, running_of, RunningTxn, SessionState, set, Statement, subst, suc, sym, waiting, waiting_after, waiting_of, zero, ℕ, ⊤, [], ◌+◌, ◌-◌, ◌<◌, ◌==◌, ◌∙◌, ◌∷◌, ◌≡◌, ◌≢◌, ◌≤◌}
use Rattle.std.proofs.Math.Seq.{map-set_same}

-- numbers rise by one from a number on
abbrev NumbersRise : ℕ → List ℕ → Type 0
NumbersRise n [] = ⊤
NumbersRise n (x ∷ xs) = (x ≡ n) × NumbersRise (suc n) xs

-- so do the sessions of some states
abbrev pub Rise : ℕ → List SessionState → Type 0
Rise n states = NumbersRise n (map (λ state. state.session) states)

pub all_rise : (states : List SessionState) → map (λ state. state.session) states ≡ all_sessions → Rise 1 states
all_rise states is = subst (λ l. NumbersRise 1 l) (sym is) (refl, (refl, (refl, (refl, (refl, (refl, (refl, (refl, (refl, tt)))))))))

-- the session at a place
session_one : (n k : ℕ) (states : List SessionState) (d : SessionState) → Rise n states → k < length states → (get_or states k d).session ≡ n + k
session_one n k [] d rise few = absurd (omega arith)
session_one n zero (state ∷ states) d rise few = omega (arith, rise.0)
session_one n (suc k) (state ∷ states) d rise few = omega (arith, session_one (suc n) k states d rise.1 (omega arith))

module _ {A : Type 0} (f : SessionState → Option A) where
  -- what is kept of the session at a place
  kept_own : (n k session : ℕ) (states : List SessionState) (d : SessionState) → Rise n states → session ≡ n + k → k < length states → kept_by f states session ≡ f (get_or states k d)
  kept_own n k session [] d rise at few = absurd (omega arith)
  kept_own n zero session (state ∷ states) d rise at few = ap (λ b. cond b (f state) (kept_by f states session)) (eq-eqb state.session session (omega (arith, rise.0, at)))
  kept_own n (suc k) session (state ∷ states) d rise at few =
      ap (λ b. cond b (f state) (kept_by f states session)) (ne_eqb state.session session (λ same. absurd (omega (arith, same, rise.0, at))))
      ∙ kept_own (suc n) k session states d rise.1 (omega (arith, at)) (omega arith)

  -- what is kept of another session with another state there
  kept_other : (k session : ℕ) (states : List SessionState) (new d : SessionState) → (get_or states k d).session ≢ session → new.session ≢ session
      → kept_by f (set states k new) session ≡ kept_by f states session
  kept_other k session [] new d old apart = refl
  kept_other zero session (state ∷ states) new d old apart =
      let rest : Option A = kept_by f states session in
      ap (λ b. cond b (f new) rest) (ne_eqb new.session session apart) ∙ sym (ap (λ b. cond b (f state) rest) (ne_eqb state.session session old))
  kept_other (suc k) session (state ∷ states) new d old apart = ap (cond (state.session == session) (f state)) (kept_other k session states new d old apart)

-- where nothing is kept of any state, nothing is of a session
pub none_kept : {A : Type 0} (f : SessionState → Option A) (states : List SessionState) → IsTrue (list_all (λ state. is_none (f state)) states) → (session : ℕ) → kept_by f states session ≡ None
none_kept f [] all session = refl
none_kept f (state ∷ states) all session =
    let parts = and_parts (is_none (f state)) (list_all (λ s. is_none (f s)) states) all in
    grind (arith, parts.0, none_kept f states parts.1 session)

-- such states agree with the empty log
pub all_idle : (level : Level) (states : List SessionState) → IsTrue (list_all (λ state. is_none state.waits) states) → IsTrue (list_all (λ state. is_none state.running) states) → DescribesAll level [] states
all_idle level states waits running session = record {
  waits = none_kept (λ state. state.waits) states waits session;
  running = subst (Agree level None) (sym (none_kept (λ state. state.running) states running session)) tt;
}

-- what is kept of a session agrees with the log by another name of each
doing_as : {level : Level} {past : Past} {session other : ℕ} {held again : Option Statement} {kept anew : Option RunningTxn} → session ≡ other → held ≡ again → kept ≡ anew
    → DescribesDoing level past session held kept → DescribesDoing level past other again anew
doing_as {level} {past} {session} {other} {held} {again} {kept} p q r d = record {
  waits = sym q ∙ d.waits ∙ ap (waiting past) p;
  running = subst (Agree level (active past other)) r (subst (λ s. Agree level (active past s) kept) p d.running);
}

-- after an event of another session too
other_session : (level : Level) (past : Past) (event : LogEvent) (session : ℕ) (held : Option Statement) (kept : Option RunningTxn) → event.session ≢ session → DescribesDoing level past session held kept
    → DescribesDoing level (event ∷ past) session held kept
other_session level past event session held kept apart is =
    let other : (event.session == session) ≡ false = ne_eqb event.session session apart in
    record {
      waits = is.waits ∙ sym (ap (λ b. cond b (waiting_after event.command event.outcome (waiting past session)) (waiting past session)) other);
      running = subst (λ b. Agree level (cond b (active_after event.command event.outcome past (active past session)) (active past session)) kept) (sym other) is.running;
    }

-- a session's state stands at its number, counted from 1
module _ (states : List SessionState) (n k : ℕ) (state : SessionState) (sessions : map (λ state. state.session) states ≡ all_sessions) (low : 1 ≤ n) (high : n ≤ 9) (place : k ≡ n - 1)
    (is : state ≡ get_or states k state) where
  there : k < length states
  there = omega (arith, length-map states (λ state. state.session), ap length sessions, place, low, high)

  pub number : state.session ≡ n
  number = ap (λ s. s.session) is ∙ session_one 1 k states state (all_rise states sessions) there ∙ omega (arith, place, low)

  pub kept_there : {A : Type 0} (f : SessionState → Option A) → kept_by f states n ≡ f state
  kept_there f = kept_own f 1 k n states state (all_rise states sessions) (omega (arith, place, low)) there ∙ ap f (sym is)

  -- it agrees with the log
  pub described_there : (level : Level) (past : Past) → DescribesAll level past states → DescribesSession level past state
  described_there level past all = doing_as (sym number) (kept_there (λ s. s.waits)) (kept_there (λ s. s.running)) (all n)

  module _ (new : SessionState) (same : new.session ≡ state.session) where
    -- with another state there the sessions stay
    pub sessions_stay : map (λ state. state.session) (set states k new) ≡ all_sessions
    sessions_stay = map-set_same (λ state. state.session) states k new state (same ∙ ap (λ s. s.session) is) ∙ sessions

    -- and the session has what is kept of that
    pub own_put : {A : Type 0} (f : SessionState → Option A) (session : ℕ) → n ≡ session → kept_by f (set states k new) session ≡ f new
    own_put f session own =
        kept_own f 1 k session (set states k new) new (all_rise (set states k new) sessions_stay) (omega (arith, own, place, low)) (omega (arith, length-set states k new, there))
        ∙ ap f (get_or-set_same states k new new there)

    other_put : {A : Type 0} (f : SessionState → Option A) (session : ℕ) → n ≢ session → kept_by f states session ≡ kept_by f (set states k new) session
    other_put f session apart = sym (kept_other f k session states new state (λ at. apart (sym number ∙ ap (λ s. s.session) is ∙ at)) (λ at. apart (sym number ∙ sym same ∙ at)))

    -- all agree with a log where it does and each other session
    all_put : (level : Level) (past : Past) → DescribesSession level past new → ((session : ℕ) → n ≢ session → DescribesDoing level past session (waiting_of states session) (running_of states session))
        → DescribesAll level past (set states k new)
    all_put level past own others session = elim (cases_eq n session) [
      | inl at ↦ doing_as (same ∙ number ∙ at) (sym (own_put (λ s. s.waits) session at)) (sym (own_put (λ s. s.running) session at)) own
      | inr apart ↦ doing_as refl (other_put (λ s. s.waits) session apart) (other_put (λ s. s.running) session apart) (others session apart)
    ]

    -- all states go on with an event where the session's own does, and something else with it
    pub states_go_on : {A : Type 0} (level : Level) (past : Past) (event : LogEvent) → n ≡ event.session → DescribesAll level past states
        → (DescribesSession level past state → event.session ≡ state.session → DescribesSession level (event ∷ past) new × A) → DescribesAll level (event ∷ past) (set states k new) × A
    states_go_on level past event own all go_on =
        let next = go_on (described_there level past all) (sym own ∙ sym number) in
        (all_put level (event ∷ past) next.0 (λ session apart. other_session level past event session _ _ (λ at. apart (own ∙ at)) (all session)), next.1)

    -- all states agree with the log still where another one in its place does
    pub states_stay : (level : Level) (past : Past) → (DescribesSession level past state → DescribesSession level past new) → DescribesAll level past states → DescribesAll level past (set states k new)
    states_stay level past go_on all = all_put level past (go_on (described_there level past all)) (λ session apart. all session)
