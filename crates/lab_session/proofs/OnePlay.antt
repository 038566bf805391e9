-- A script has one play at a level and on a setup.
use Rattle.std.{proofs.{Common.{◌≡◌, ◌≢◌, inl, inr, ℕ, ◌<◌, ◌≤◌, refl, sym, ap, subst, ◌∙◌, arith, List, [], ◌∷◌, length}, lemmas.{Bool.{cases_lt, false≢true}, List.{reverse-reverse, length-reverse}, Option.{same_Some}}}, specs.{Prelude.{Some, is_some, true, Ok}, Result.{is_ok, result_err}}}
use Rattle.lab_table.specs.{Table.{Table}, declared.statement.{Statement.{Statement}, Command.{Command, TheVariants.{Run}}}}
use Rattle.lab_history.specs.{History.{History}, FirstPartsFault.{checked}, declared.fault.Limit.{Limit}}
use Rattle.lab_engine.specs.declared.event.{Level.{Level}, EngineFault.TheVariants.{Busy}, Outcome.TheVariants.{Refused}, LogEvent.{LogEvent}}
use Rattle.lab_engine.specs.declared.recording.RecordFault.TheVariants as record_fault
use Rattle.lab_engine.specs.Log.{Past, past_of, active, waiting}
use Rattle.lab_engine.specs.Rules.{IsLegal, Permitted}
use Rattle.lab_engine.specs.Recording.{Line, next_line, IsRetryable, IsLeastRetryable, IsIdle, FollowsScript, AllFollowScript, IsScripted, IsRecording}
use Rattle.lab_engine.specs.OverLimit.{BreaksLimit, fault_of}
use Rattle.lab_engine.specs.LeastCircle.{NamesLeastOf, AllNameLeast}
use Rattle.lab_engine.proofs.{LockSteps.{none_some}, OneOutcome.{one_answer}, OneRecording.{one_recording}}
use Rattle.lab_session.{specs.{Play.{IsLegalPlay, FollowsLegally, IsScriptedFault}, declared.fault.PlayFault.{PlayFault, TheVariants.{NoMemory, OverLimit, Close, NoThread, Full}}}, proofs.{Asked.{retried, not_busy}, Playing.{next_rests}, Stages.{rests, holds, ended, StageOf, stages}}}

-- of the least numbers with a property there is one
one_least : (P : ℕ → Type 0) (n m : ℕ) → P n → ((k : ℕ) → k < n → ¬ P k) → P m → ((k : ℕ) → k < m → ¬ P k) → n ≡ m
one_least P n m own none other never = elim (cases_lt n m) [
  | inl below ↦ absurd (never n below own)
  | inr above ↦ elim (cases_lt m n) [
    | inl below ↦ absurd (none m below other)
    | inr level ↦ omega (arith, above, level)
  ]
]

-- a session that waits in a legal log that follows a script is active
waiter_runs : (lines : List Line) (past : Past) (session : ℕ) (s : Statement) → StageOf lines past session → waiting past session ≡ Some s → is_some (active past session) ≡ true
waiter_runs lines past session s (rests rest none split count first) is = none_some _ (sym none ∙ is)
waiter_runs lines past session s (holds t rest held split count live) is = live
waiter_runs lines past session s (ended none dead over count some) is = none_some _ (sym none ∙ is)

-- After a legal log that has followed a script.
module _ (level : Level) (setup : Table) (lines : List Line) (past : Past) (legal : IsLegal level setup past) (follows : AllFollowScript level setup lines past) where
  -- an event that a play may have next
  abbrev pub IsNext : LogEvent → Type 0
  IsNext event = FollowsScript level setup lines past event × Permitted level setup past event.session event.command event.outcome
      × NamesLeastOf level setup past event.session event.command event.outcome

  -- it isn't refused as Busy
  never_busy : (event : LogEvent) → IsNext event → event.outcome ≢ Refused Busy
  never_busy event (inl (least, busy), may, names) = busy
  never_busy event (inr (inl (none, next)), may, names) =
      not_busy level setup past event.session event.command event.outcome may (next_rests past [] lines (event.session, event.command) next)
  never_busy event (inr (inr (none, next, idle, is)), may, names) = not_busy level setup past event.session event.command event.outcome may idle.0.1

  -- the command of a retry is the statement that waits
  runs_waiting : (event : LogEvent) → IsNext event → (s : Statement) → waiting past event.session ≡ Some s → event.command ≡ Run s
  runs_waiting event next s is =
      retried level setup past event.session event.command event.outcome s is
      (waiter_runs lines past event.session s (stages level setup lines past legal follows event.session) is) next.1 (never_busy event next)

  -- two are of one session and command
  abbrev Same : LogEvent → LogEvent → Type 0
  Same event other = (event.session ≡ other.session) × (event.command ≡ other.command)

  same_retry : (event other : LogEvent) → IsNext event → IsNext other → IsLeastRetryable level setup past event.session → IsLeastRetryable level setup past other.session → Same event other
  same_retry event other next after least lesser =
      let same : event.session ≡ other.session = one_least (IsRetryable level setup past) event.session other.session least.0 least.1 lesser.0 lesser.1 in
      let s = least.0 in
      (same, runs_waiting event next s.0 s.1 ∙ sym (runs_waiting other after s.0 (subst (λ k. waiting past k ≡ Some s.0) same s.1)))

  same_line : (event other : LogEvent) → next_line past [] lines ≡ Some (event.session, event.command) → next_line past [] lines ≡ Some (other.session, other.command) → Same event other
  same_line event other is alike =
      let same : (event.session, event.command) ≡ (other.session, other.command) = same_Some (event.session, event.command) (other.session, other.command) (sym is ∙ alike) in
      (ap (λ (l : Line). l.0) same, ap (λ (l : Line). l.1) same)

  same_next : (event other : LogEvent) → IsNext event → IsNext other → FollowsScript level setup lines past event → FollowsScript level setup lines past other → Same event other
  same_next event other next after (inl (least, busy)) (inl (lesser, never)) = same_retry event other next after least lesser
  same_next event other next after (inl (least, busy)) (inr (inl (none, line))) = absurd (none event.session least.0)
  same_next event other next after (inl (least, busy)) (inr (inr (none, line, idle, is))) = absurd (none event.session least.0)
  same_next event other next after (inr (inl (none, line))) (inl (lesser, never)) = absurd (none other.session lesser.0)
  same_next event other next after (inr (inl (none, line))) (inr (inl (never, again))) = same_line event other line again
  same_next event other next after (inr (inl (none, line))) (inr (inr (never, nothing, idle, is))) = none_some _ (sym nothing ∙ line)
  same_next event other next after (inr (inr (none, nothing, idle, is))) (inl (lesser, never)) = absurd (none other.session lesser.0)
  same_next event other next after (inr (inr (none, nothing, idle, is))) (inr (inl (never, line))) = none_some _ (sym nothing ∙ line)
  same_next event other next after (inr (inr (none, nothing, idle, is))) (inr (inr (never, again, rest, alike))) =
      (one_least (IsIdle past) event.session other.session idle.0 idle.1 rest.0 rest.1, is ∙ sym alike)

  -- so they are one
  pub one_next : (event other : LogEvent) → IsNext event → IsNext other → event ≡ other
  one_next event other next after =
      let same : Same event other = same_next event other next after next.0 after.0 in
      one_event event other same.0 same.1
      (one_answer level setup past event.session event.command event.outcome other.outcome (next.1, never_busy event next, next.2)
      (moved (λ k c. Permitted level setup past k c other.outcome) event other same after.1, never_busy other after, moved (λ k c. NamesLeastOf level setup past k c other.outcome) event other same after.2))
    where
      moved : (P : ℕ → Command → Type 0) (event other : LogEvent) → Same event other → P other.session other.command → P event.session event.command
      moved P event other same h = subst (λ c. P event.session c) (sym same.1) (subst (λ k. P k other.command) (sym same.0) h)

      one_event : (event other : LogEvent) → event.session ≡ other.session → event.command ≡ other.command → event.outcome ≡ other.outcome → event ≡ other
      one_event event other session command outcome =
          ap (λ k. record { session = k; command = event.command; outcome = event.outcome }) session
          ∙ ap (λ c. record { session = other.session; command = c; outcome = event.outcome }) command
          ∙ ap (λ o. record { session = other.session; command = other.command; outcome = o }) outcome

  -- after the end there is none
  none_next : IsScripted level setup lines past → (event : LogEvent) → FollowsScript level setup lines past event → ⊥
  none_next over event (inl (least, busy)) = over.none_retryable event.session least.0
  none_next over event (inr (inl (none, line))) = none_some _ (sym over.none_left ∙ line)
  none_next over event (inr (inr (none, nothing, idle, is))) = over.none_idle event.session idle.0

-- a log of a play so far
record IsPlaying (level : Level) (setup : Table) (lines : List Line) (past : Past) : Type 0 where
  legal : IsLegal level setup past
  follows : AllFollowScript level setup lines past
  least : AllNameLeast level setup past

module _ (level : Level) (setup : Table) (lines : List Line) where
  before : (event : LogEvent) (past : Past) → IsPlaying level setup lines (event ∷ past) → IsPlaying level setup lines past
  before event past h = record { legal = h.legal.0; follows = h.follows.0; least = h.least.0 }

  -- logs of as many events are one
  as_long : (past other : Past) → length past ≡ length other → IsPlaying level setup lines past → IsPlaying level setup lines other → past ≡ other
  as_long [] [] same h k = refl
  as_long [] (event ∷ other) same h k = absurd (omega (arith, same))
  as_long (event ∷ past) [] same h k = absurd (omega (arith, same))
  as_long (event ∷ past) (another ∷ other) same h k =
      let alike : past ≡ other = as_long past other (omega (arith, same)) (before event past h) (before another other k) in
      let k' : IsPlaying level setup lines (another ∷ past) = subst (λ p. IsPlaying level setup lines (another ∷ p)) (sym alike) k in
      ap (λ e. e ∷ past) (one_next level setup lines past h.legal.0 h.follows.0 event another (h.follows.1, h.legal.1, h.least.1) (k'.follows.1, k'.legal.1, k'.least.1))
      ∙ ap (λ p. another ∷ p) alike

  -- none is longer than one that has ended
  no_longer : (past other : Past) → IsPlaying level setup lines past → IsScripted level setup lines past → IsPlaying level setup lines other → length other ≤ length past
  no_longer past [] h over k = omega arith
  no_longer past (event ∷ other) h over k = elim (cases_lt (length other) (length past)) [
    | inl fewer ↦ omega (arith, fewer)
    | inr many ↦
        let most : length other ≤ length past = no_longer past other h over (before event other k) in
        let same : past ≡ other = as_long past other (omega (arith, many, most)) h (before event other k) in
        let k' : IsPlaying level setup lines (event ∷ past) = subst (λ p. IsPlaying level setup lines (event ∷ p)) (sym same) k in
        absurd (none_next level setup lines past h.legal h.follows over event k'.follows.1)
  ]

  one_past : (past other : Past) → IsPlaying level setup lines past → IsPlaying level setup lines other → IsScripted level setup lines past → IsScripted level setup lines other → past ≡ other
  one_past past other h k over done =
      as_long past other (omega (arith, no_longer past other h over k, no_longer other past k done h)) h k

  playing : (log : List LogEvent) → IsLegalPlay level setup lines log → IsPlaying level setup lines (past_of log)
  playing log h = record { legal = h.legal; follows = h.scripted.follows; least = h.least }

  pub one_play : (log other : List LogEvent) → IsLegalPlay level setup lines log → IsLegalPlay level setup lines other → log ≡ other
  one_play log other h k =
      sym (reverse-reverse log) ∙ ap past_of (one_past (past_of log) (past_of other) (playing log h) (playing other k) h.scripted k.scripted) ∙ reverse-reverse other

  -- a play that ended isn't stopped where the log is full
  never_full : (log other : List LogEvent) → IsLegalPlay level setup lines log → FollowsLegally level setup lines other → length other ≡ 100000 → ¬ IsScripted level setup lines (past_of other) → ⊥
  never_full log other play stopped full left =
      let h : IsPlaying level setup lines (past_of log) = playing log play in
      let k : IsPlaying level setup lines (past_of other) = record { legal = stopped.legal; follows = stopped.follows; least = stopped.least } in
      let most : length (past_of other) ≤ length (past_of log) = no_longer (past_of log) (past_of other) h play.scripted k in
      let same : past_of log ≡ past_of other = as_long (past_of log) (past_of other) (omega (arith, most, full, play.room, length-reverse log, length-reverse other)) h k in
      left (subst (IsScripted level setup lines) same play.scripted)

  -- two plays that ended have one history
  one_history : (log other : List LogEvent) (h k : History) → IsLegalPlay level setup lines log → IsLegalPlay level setup lines other → IsRecording setup (past_of log) h
      → IsRecording setup (past_of other) k → h ≡ k
  one_history log other h k play again r s = one_recording setup (past_of log) h k r (subst (λ l. IsRecording setup (past_of l) k) (one_play other log again play) s)

  -- a play that is recorded whole has no fault
  pub no_fault : (log : List LogEvent) (h : History) → IsLegalPlay level setup lines log → IsRecording setup (past_of log) h → checked h ≡ Ok tt → (fault : PlayFault) → fault ≢ NoMemory
      → IsScriptedFault level setup lines fault → ⊥
  no_fault log h play recording whole NoMemory told faulty = told refl
  no_fault log h play recording whole (OverLimit which) told (other, again, (k, recorded, much, (f, first, is))) =
      let same : h ≡ k = one_history log other h k play again recording recorded in
      false≢true (sym (ap is_ok (sym whole ∙ ap checked same ∙ first)))
  no_fault log h play recording whole (Close fault) told faulty = faulty
  no_fault log h play recording whole NoThread told faulty = faulty
  no_fault log h play recording whole Full told (other, stopped, full, left) = never_full log other play stopped full left

  one_limit : (which limit : Limit) (log other : List LogEvent) → IsLegalPlay level setup lines log → IsLegalPlay level setup lines other → BreaksLimit setup (past_of log) which
      → BreaksLimit setup (past_of other) limit → which ≡ limit
  one_limit which limit log other play again (h, recording, much, (f, first, is)) (k, recorded, more, (g, before, alike)) =
      let same : h ≡ k = one_history log other h k play again recording recorded in
      let fault : f ≡ g = same_Some f g (ap result_err (sym first ∙ ap checked same ∙ before)) in
      let limits : record_fault.OverLimit which ≡ record_fault.OverLimit limit = sym is ∙ ap fault_of fault ∙ alike in
      cc

  -- and one that isn't has one
  pub one_fault : (fault other : PlayFault) → fault ≢ NoMemory → other ≢ NoMemory → IsScriptedFault level setup lines fault → IsScriptedFault level setup lines other → fault ≡ other
  one_fault NoMemory other told again h k = absurd (told refl)
  one_fault (Close fault) other told again h k = absurd h
  one_fault NoThread other told again h k = absurd h
  one_fault (OverLimit which) NoMemory told again h k = absurd (again refl)
  one_fault (OverLimit which) (Close fault) told again h k = absurd k
  one_fault (OverLimit which) NoThread told again h k = absurd k
  one_fault (OverLimit which) (OverLimit limit) told again (log, play, breaks) (other, played, broken) = ap OverLimit (one_limit which limit log other play played breaks broken)
  one_fault (OverLimit which) Full told again (log, play, breaks) (other, stopped, full, left) = absurd (never_full log other play stopped full left)
  one_fault Full NoMemory told again h k = absurd (again refl)
  one_fault Full (Close fault) told again h k = absurd k
  one_fault Full NoThread told again h k = absurd k
  one_fault Full (OverLimit limit) told again (other, stopped, full, left) (log, play, breaks) = absurd (never_full log other play stopped full left)
  one_fault Full Full told again h k = refl
