-- Which sessions wait for which after a log.
use Rattle.std.proofs.lemmas.List.Kept.{IsStrictlyIncreasing-filter}
use Rattle.lab_engine.proofs.{Common.{arith, active, all_sessions, and_from, and_parts, Any-from_list_any, ap, AreBlockers, AreOthers, AreWaits, Asker, BlockedBy, Blocks, cases_eq, cond, Contains, Describes, DescribesSession, eq-eqb, eqb-true, filter, get_or, has, inl, inr, IsAsker, IsTrue, length, length-map, Level, List, list_any, list_any_at, MayAsk, ne_eqb, none_some, Past, refl, same_Some, SessionState, Situation, Some, some_is, Statement, subst, sym, Table, take, take_all, Txn, waiting, waits_for, WaitsOn, ℕ, ◌&&◌, ◌+◌, ◌<◌, ◌==◌, ◌↔◌, ◌∙◌, ◌≡◌, ◌≢◌, ◌≤◌, any-filter_same}, States.{described_there, number}, Rising.{kept_sessions, rising, sessions_of}, WaitGraphs.{session_range}}

-- what is said of the state at a place of a situation
pub record StandsAt (level : Level) (past : Past) (i : ℕ) (state : SessionState) : Type 0 where
  pub number : state.session ≡ i + 1
  pub described : DescribesSession level past state

module _ {level : Level} (past : Past) (situation : Situation) (d : Describes level past situation) where
  -- a situation has a state of each of the nine sessions
  nine : length situation.sessions ≡ 9
  nine = sym (length-map situation.sessions (λ state. state.session)) ∙ ap length d.sessions

  -- so a state that a loop comes to stands in it
  pub stands_at : (i : ℕ) (item : SessionState) → i < 9 → item ≡ get_or situation.sessions i item → StandsAt level past i (get_or situation.sessions i item)
  stands_at i item lt is =
      let state : SessionState = get_or situation.sessions i item in
      let same : state ≡ get_or situation.sessions i state = subst (λ s. s ≡ get_or situation.sessions i s) is is in
      let high : i + 1 ≤ 9 = omega (arith, lt) in
      record {
        number = number situation.sessions (i + 1) i state d.sessions (omega arith) high (omega arith) same;
        described = described_there situation.sessions (i + 1) i state d.sessions (omega arith) high (omega arith) same level past d.states;
      }

-- another of which it holds that it blocks the statement of the active transaction blocks it
pub others_block : (level : Level) (past : Past) (s : Statement) (txn : Txn) (asker : Asker) (set : ℕ) → IsAsker level past txn asker
    → AreOthers past asker (Blocks level asker.setup.now past txn s) set → (other : ℕ) → IsTrue (has set other) ↔ BlockedBy level asker.setup.now past asker.session s other
others_block level past s txn asker set asks are other = (
  (λ there. let o = (are other).0 there in (txn, o.0, o.1, asks.active, o.2, o.3)),
  (λ b. (are other).1 (b.1, b.2, b.4, subst (λ t. Blocks level asker.setup.now past t s b.1) (same_Some b.0 txn (sym b.3 ∙ asks.active)) b.5)),
)

-- an element passes its own test
any_contains : (xs : List ℕ) (x : ℕ) → IsTrue (list_any (λ k. k == x) xs) → Contains xs x
any_contains xs x h = let f = Any-from_list_any (λ k. k == x) xs h in subst (Contains xs) (eqb-true f.1 x f.4) (f.0, f.2, f.3)

-- who is in a list is found there
pub contains_any : (xs : List ℕ) (x : ℕ) → Contains xs x → IsTrue (list_any (λ k. k == x) xs)
contains_any xs x c = list_any_at (λ k. k == x) xs c.0 x c.1 (eq-eqb (get_or xs c.0 x) x c.2)

-- a session is one of those that a set has of all, where it has it
chosen_of_all : (set other : ℕ) → list_any (λ k. k == other) (filter (has set) all_sessions) ≡ (has set other && list_any (λ k. k == other) all_sessions)
chosen_of_all set other = any-filter_same (λ k. k == other) (has set) (has set other) (λ k same. ap (has set) (eqb-true k other same)) all_sessions

-- once all are passed, those of a set of all that block are the blockers
pub blockers_all : (level : Level) (setup : Table) (past : Past) (situation : Situation) (session : ℕ) (s : Statement) (passed set : ℕ) (on : List ℕ) → Describes level past situation
    → 9 ≤ passed → ((other : ℕ) → IsTrue (has set other) ↔ BlockedBy level setup past session s other)
    → on ≡ sessions_of (filter (λ state. has set state.session) (take passed situation.sessions)) → AreBlockers level setup past session s on
blockers_all level setup past situation session s passed set on d all blocking h = subst (AreBlockers level setup past session s) (sym is) (record {
  rising = IsStrictlyIncreasing-filter (has set) all_sessions (rising 0 all_sessions (omega arith, (omega arith, (omega arith, (omega arith, (omega arith, (omega arith, (omega arith, (omega arith, (omega arith, tt))))))))));
  are = λ other. (
    (λ c. (blocking other).0 (and_parts _ _ (sym (chosen_of_all set other) ∙ contains_any (filter (has set) all_sessions) other c)).0),
    (λ b. any_contains (filter (has set) all_sessions) other
        (chosen_of_all set other ∙ and_from _ _ ((blocking other).1 b) (contains_any all_sessions other (d.active_is other (some_is (active past other) b.1 b.4))))),
  );
})
  where
    is : on ≡ filter (has set) all_sessions
    is = h ∙ ap (λ l. sessions_of (filter (λ state. has set state.session) l)) (take_all passed situation.sessions (omega (arith, nine past situation d, all))) ∙ kept_sessions (has set) situation.sessions ∙ ap (filter (has set)) d.sessions

-- those that block the statement that a session waits with are those that it waits for
pub waits_on_blocking : (level : Level) (setup : Table) (past : Past) (session : ℕ) (s : Statement) (set : ℕ) → waiting past session ≡ Some s
    → ((other : ℕ) → IsTrue (has set other) ↔ BlockedBy level setup past session s other) → (other : ℕ) → IsTrue (has set other) ↔ WaitsOn level setup past session other
waits_on_blocking level setup past session s set is are other =
    ((λ c. (s, is, (are other).0 c)), (λ w. (are other).1 (subst (λ t. BlockedBy level setup past session t other) (same_Some w.0 s (sym w.1 ∙ is)) w.2)))

-- a graph has what the sessions up to a number wait for
abbrev pub AreWaitsOf : Level → Table → Past → ℕ → List ℕ → Type 0
AreWaitsOf level setup past passed waits = (session other : ℕ) → IsTrue (waits_for waits session other) ↔ ((session ≤ passed) × WaitsOn level setup past session other)

-- a graph has that one session waits for a set, and else what another graph has
abbrev pub WithOne : List ℕ → List ℕ → ℕ → ℕ → Type 0
WithOne new waits session set = (waiter other : ℕ) → waits_for new waiter other ≡ cond (waiter == session) (has set other) (waits_for waits waiter other)

-- what it has of that session
own_waits : (new waits : List ℕ) (session set : ℕ) → WithOne new waits session set → (waiter other : ℕ) → waiter ≡ session → waits_for new waiter other ≡ has set other
own_waits new waits session set with_one waiter other same = with_one waiter other ∙ ap (λ b. cond b (has set other) (waits_for waits waiter other)) (eq-eqb waiter session same)

-- and of another
other_waits : (new waits : List ℕ) (session set : ℕ) → WithOne new waits session set → (waiter other : ℕ) → waiter ≢ session → waits_for new waiter other ≡ waits_for waits waiter other
other_waits new waits session set with_one waiter other apart = with_one waiter other ∙ ap (λ b. cond b (has set other) (waits_for waits waiter other)) (ne_eqb waiter session apart)

-- one more session
pub waits_step : (level : Level) (setup : Table) (past : Past) (i session : ℕ) (waits new : List ℕ) (set : ℕ) → session ≡ i + 1 → AreWaitsOf level setup past i waits
    → ((other : ℕ) → IsTrue (has set other) ↔ WaitsOn level setup past session other) → WithOne new waits session set → AreWaitsOf level setup past (i + 1) new
waits_step level setup past i session waits new set at h own with_one waiter other = elim (cases_eq waiter session) [
  | inl same ↦ (
    (λ w. (omega (arith, at, same), subst (λ k. WaitsOn level setup past k other) (sym same) ((own other).0 (sym (own_waits new waits session set with_one waiter other same) ∙ w)))),
    (λ w. own_waits new waits session set with_one waiter other same ∙ (own other).1 (subst (λ k. WaitsOn level setup past k other) same w.1)),
  )
  | inr apart ↦ (
    (λ w. let old = (h waiter other).0 (sym (other_waits new waits session set with_one waiter other apart) ∙ w) in (omega (arith, old.0), old.1)),
    (λ w. other_waits new waits session set with_one waiter other apart ∙ (h waiter other).1 (omega (arith, w.0, at, apart), w.1)),
  )
]

-- a session that waits is from 1 to 9
pub waits_within : {level : Level} (past : Past) (situation : Situation) (session : ℕ) (s : Statement) → Describes level past situation → waiting past session ≡ Some s → (1 ≤ session) × (session ≤ 9)
waits_within past situation session s d is = session_range session (contains_any all_sessions session (d.waiting_is session (some_is (waiting past session) s is)))

-- once all are passed, the graph has all
pub waits_all : (level : Level) (setup : Table) (past : Past) (situation : Situation) (passed : ℕ) (waits : List ℕ) → Describes level past situation → 9 ≤ passed
    → AreWaitsOf level setup past passed waits → AreWaits level setup past waits
waits_all level setup past situation passed waits d all h session other =
    ((λ w. ((h session other).0 w).1), (λ w. (h session other).1 (omega (arith, all, (waits_within past situation session w.0 d w.1).1), w)))

-- a statement that a session may ask for is the one that it waits with
pub asked_is : (past : Past) (session : ℕ) (s held : Statement) → MayAsk past session s → waiting past session ≡ Some held → held ≡ s
asked_is past session s held (inl none) is = none_some _ (sym none ∙ is)
asked_is past session s held (inr some) is = same_Some held s (sym is ∙ some)

-- the graph has who waits for whom after a log, but of one session it has the blockers of this statement
abbrev pub AreWaitsWith : Level → Table → Past → ℕ → Statement → List ℕ → Type 0
AreWaitsWith level setup past session s waits =
    ((other : ℕ) → IsTrue (waits_for waits session other) ↔ BlockedBy level setup past session s other)
    × ((waiter other : ℕ) → waiter ≢ session → IsTrue (waits_for waits waiter other) ↔ WaitsOn level setup past waiter other)

-- the graph with a session's blockers of what it asks for
pub waits_with : (level : Level) (setup : Table) (past : Past) (session : ℕ) (s : Statement) (waits new : List ℕ) (set : ℕ) (on : List ℕ) → AreWaits level setup past waits
    → WithOne new waits session set → ((n : ℕ) → has set n ≡ list_any (λ o. o == n) on) → AreBlockers level setup past session s on → AreWaitsWith level setup past session s new
waits_with level setup past session s waits new set on h with_one is are = (
  (λ other. (
    (λ w. (are.are other).0 (any_contains on other (sym (is other) ∙ sym (own_waits new waits session set with_one session other refl) ∙ w))),
    (λ b. own_waits new waits session set with_one session other refl ∙ is other ∙ contains_any on other ((are.are other).1 b)),
  )),
  (λ waiter other apart. (
    (λ w. (h waiter other).0 (sym (other_waits new waits session set with_one waiter other apart) ∙ w)),
    (λ w. other_waits new waits session set with_one waiter other apart ∙ (h waiter other).1 w),
  )),
)
