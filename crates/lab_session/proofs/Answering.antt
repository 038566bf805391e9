-- What a seat has once the turns have answered its command.
use Rattle.std.{proofs.{Common.{◌≡◌, ◌++◌, ◌∷◌, [], Bool, true, false, refl, sym, ap, subst, ◌∙◌, inl, inr}, lemmas.Option.{same_Some}}, specs.Prelude.{Some}}
use Rattle.lab_table.specs.declared.statement.Command.{Command, TheVariants.{Run}}
use Rattle.lab_engine.specs.Journal.{EngineRun}
use Rattle.lab_session.{specs.{declared.{bench.Receipt.{Receipt}, fault.LabFault.{LabFault}}, Seats.{Seated, IsLogged, GrowsBy}, Waiting.{IsTold}, Turns.{holding, resting, IsStepped, IsSteppedIn, IsRetriedIn, IsAnswered, IsGoneOn}}, proofs.Turning.{logged}}

module _ (Runs : EngineRun → Type 0) where
  -- a list has one more call whatever the seat held
  held_apart : (seat held after : Seated) (command : Command) (receipt : Receipt) → held.session ≡ seat.session → held.calls ≡ seat.calls → GrowsBy held after command receipt
      → GrowsBy seat after command receipt
  held_apart seat held after command receipt session calls grows = record {
    session = grows.session ∙ session;
    calls = grows.calls ∙ ap (λ l. l ++ record { command = command; receipt = receipt } ∷ []) calls;
    answered = grows.answered;
    reply = grows.reply;
  }

  -- a retry answers the command that the seat held
  retried_answers : (seat after : Seated) → IsRetriedIn Runs seat after
      → (command : Command) × (r : Receipt) × (seat.holds ≡ Some command) × GrowsBy seat after command r × IsLogged Runs seat.session r
  retried_answers seat after turn =
      let r = turn.retried in
      (r.command, r.receipt, r.held, r.listed, logged Runs turn.old.level turn.old.setup turn.old.log turn.new seat.session (Run r.retry.0) r.receipt r.retry.2 r.place turn.behind)

  pub answered_by : (old : EngineRun) (seat after : Seated) (command : Command) → IsAnswered Runs old seat after command
      → (r : Receipt) × GrowsBy seat after command r × IsLogged Runs seat.session r
  answered_by old seat after command (inl once) =
      let s = once.stepped in
      (s.receipt, s.listed refl, logged Runs old.level old.setup old.log once.new seat.session command s.receipt s.step.0 s.place once.behind)
  answered_by old seat after command (inr (first, later)) =
      let a = retried_answers (holding seat command) after later in
      let is : a.0 ≡ command = same_Some a.0 command (sym a.2) in
      (a.1, subst (λ c. GrowsBy seat after c a.1) is (held_apart seat (holding seat command) after a.0 a.1 refl refl a.3), a.4)

  pub gone_on_by : (seat after : Seated) → IsGoneOn Runs seat after
      → (command : Command) × (r : Receipt) × (seat.holds ≡ Some command) × GrowsBy seat after command r × IsLogged Runs seat.session r
  gone_on_by seat after (inl turn) = retried_answers seat after turn
  gone_on_by seat after (inr (old, command, held, rests, answered)) =
      let a = answered_by old (resting seat) after command answered in
      (command, a.0, held, held_apart seat (resting seat) after command a.0 refl refl a.1, a.2)

-- one turn in which a seat's command was stepped in a lab
module _ (Runs : EngineRun → Type 0) (old new : EngineRun) (before : Runs old) (behind : Runs new) (seat after : Seated) (command : Command) (answered : Bool)
    (stepped : IsStepped old new seat after command answered) where
  pub at_once : answered ≡ true → IsAnswered Runs old seat after command
  at_once is = inl (record { before = before; new = new; behind = behind; stepped = subst (IsStepped old new seat after command) is stepped })

  pub told_to_wait : answered ≡ false → IsSteppedIn Runs old seat (holding seat command) command false
  told_to_wait is = record {
    before = before;
    new = new;
    behind = behind;
    stepped = subst (λ s. IsStepped old new seat s command false) (stepped.held is) (subst (IsStepped old new seat after command) is stepped);
  }

  -- what it's answered since, where it waited
  pub since : (s : Seated) → answered ≡ false → IsRetriedIn Runs after s → IsAnswered Runs old seat s command
  since s is later = inr (told_to_wait is, subst (λ h. IsRetriedIn Runs h s) (stepped.held is) later)

  -- what it's refused since
  pub told_since : (fault : LabFault) → answered ≡ false → IsTold Runs after.session fault → IsTold Runs seat.session fault
  told_since fault is told = subst (λ n. IsTold Runs n fault) (ap (λ (s : Seated). s.session) (stepped.held is)) told
