-- Where what was seen stays true up to the commit, the writer of an anti-dependency commits after the reader; so every
-- edge follows the order of commits.
use Rattle.std.{specs.{Option.{option_or}, Prelude.{unwrap_or}}, proofs.{Common.{◌≡◌, ◌≢◌, ℕ, suc, ◌<◌, ◌≤◌, refl, sym, ap, subst, ◌∙◌, false, true, List, [], ◌∷◌, ◌++◌, inl, inr, length, append_assoc, arith}, lemmas.Bool.{cases_order}}}
use Rattle.lab_table.{specs.{Row.{Row}, Table.{Table}, Statement.{matches}}, proofs.Tests.{some_of}}
use Rattle.lab_history.specs.{History.{History}, declared.operation.Op.{Op}}
use Rattle.lab_history.specs.Version as history
use Rattle.lab_engine.{specs.{declared.event.Level.{Level}, Log.{Past, Txn, commits, version_by, last_installed, initial_version}, Laws.{Untouched}, Recording.{IsLegalRecording}}, proofs.DoneTransactions.{untouched_by}}
use Rattle.lab_deps.specs.{Edges.{IsEdge, Depends, changes, SeesPlace, InstallsAt, Lists}, declared.edge.{Edge.{Edge}, Kind.{Kind, TheVariants.{ItemAnti, PredicateAnti}}}}
use Rattle.lab_order.specs.Order.{position}
use Rattle.lab_judge.specs.{LogOrders.{commit_order}, Places.{is_anti, IsForwardOrder}, Phenomena.{IsClosedWalk, NoWalk}, Runs.{IsSerialRun}, Stable.{StaysTrue, ReadsStable}}
use Rattle.lab_judge.proofs.{Suffixes.{suffix_of_suffix, same_suffix, head_same}, Ranks.{rank-first, Installs}, RecordedVersions.{installer_at, state_at-is}, ViewedVersions.{SeenVersion, seen_by}, CommittedSuffixes.{suffix_after}, SeenRanks.{sees_rank, unseen, lists_match}}
use Rattle.lab_judge.proofs.{AntiDependencies.{Follows, differ_none}, CommitPositions.{position_is, each_once}, CommitOrder.{flow_ahead}, SoundRecordings.{is_sound}, Orders.{is_serial}, Excludes.{no_closed_walk}}

module _ {level : Level} {setup : Table} {past : Past} {h : History} (recorded : IsLegalRecording level setup past h) (row : Row) (op : Op) (v p from to k : ℕ)
    (s : SeenVersion level setup past h from k op row) (stable : StaysTrue setup op.statement s.at.earlier s.base) (y : Installs row (commits past) p to) (other : from ≢ to)
    (after : length s.base ≤ length y.at.earlier) where
  -- the writer, if it committed after what the operation saw and before the reader
  pub record Between : Type 0 where
    pub front : List Txn
    pub rest : List Txn
    pub since_is : stable.since ≡ front ++ y.at.txn ∷ rest
    pub earlier_is : y.at.earlier ≡ rest ++ s.base

  both : s.at.later ++ s.at.txn ∷ s.at.earlier ≡ y.at.later ++ y.at.txn ∷ y.at.earlier
  both = sym s.at.txns_are ∙ y.at.txns_are

  same_place : length y.at.earlier ≡ length s.at.earlier → ⊥
  same_place long =
      let ends : s.at.txn ∷ s.at.earlier ≡ y.at.txn ∷ y.at.earlier = same_suffix s.at.later (s.at.txn ∷ s.at.earlier) y.at.later (y.at.txn ∷ y.at.earlier) both (ap suc (sym long)) in
      other (sym s.at.number_is ∙ (ap (λ (t : Txn). t.no) (head_same s.at.txn y.at.txn s.at.earlier y.at.earlier ends) ∙ y.at.number_is))

  between : length y.at.earlier < length s.at.earlier → Between
  between short =
      let reader : commits past ≡ (s.at.later ++ s.at.txn ∷ []) ++ s.at.earlier = (suffix_after (commits past) s.at.later s.at.txn s.at.earlier s.at.txns_are).1 in
      let x = suffix_of_suffix y.at.later (y.at.txn ∷ y.at.earlier) (s.at.later ++ s.at.txn ∷ []) s.at.earlier (sym y.at.txns_are ∙ reader) (omega (arith, short)) in
      let parts : stable.since ++ s.base ≡ (x.0 ++ y.at.txn ∷ []) ++ y.at.earlier = sym stable.since_is ∙ (x.1 ∙ sym (append_assoc x.0 (y.at.txn ∷ []) y.at.earlier)) in
      let z = suffix_of_suffix stable.since s.base (x.0 ++ y.at.txn ∷ []) y.at.earlier parts (omega (arith, after)) in
      record { front = x.0; rest = z.0; since_is = z.2 ∙ append_assoc x.0 (y.at.txn ∷ []) z.0; earlier_is = z.1 }

  -- then it changed nothing that the operation's statement matches
  unmatched : Between → (matches op.statement row (history.state_at h row p) ≡ false) × (matches op.statement row (history.state_at h row (suc p)) ≡ false)
  unmatched b =
      let wrote = some_of (version_by y.at.txn row) y.wrote_it in
      let clear = untouched_by setup op.statement b.front y.at.txn b.rest s.base row wrote.0
      (subst (λ x. Untouched setup op.statement x s.base) b.since_is stable.untouched) wrote.1 in
      let old : history.state_at h row p ≡ (unwrap_or (last_installed (b.rest ++ s.base) row) (initial_version setup row)).state =
      ap (history.state_at h row) (sym y.place_is)
      ∙ (state_at-is recorded row (y.at.later ++ y.at.txn ∷ []) y.at.earlier (suffix_after (commits past) y.at.later y.at.txn y.at.earlier y.at.txns_are).1
      ∙ ap (λ x. (unwrap_or (last_installed x row) (initial_version setup row)).state) b.earlier_is) in
      let new : history.state_at h row (suc p) ≡ wrote.0.state =
      ap (history.state_at h row) (ap suc (sym y.place_is) ∙ sym (rank-first row y.at.txn y.at.earlier y.wrote_it))
      ∙ (state_at-is recorded row y.at.later (y.at.txn ∷ y.at.earlier) y.at.txns_are
      ∙ ap (λ x. (unwrap_or (option_or x (last_installed y.at.earlier row)) (initial_version setup row)).state) wrote.1) in
      (ap (matches op.statement row) old ∙ clear.0, ap (matches op.statement row) new ∙ clear.1)

  comes_later : (Between → ⊥) → length s.at.earlier < length y.at.earlier
  comes_later never = elim (cases_order (length s.at.earlier) (length y.at.earlier)) [
    | inl e ↦ absurd (same_place (sym e))
    | inr (inl below) ↦ below
    | inr (inr above) ↦ absurd (never (between above))
  ]

module _ {level : Level} {setup : Table} {past : Past} {h : History} (recorded : IsLegalRecording level setup past h) (stable : ReadsStable level setup past) where
  stays : (n k : ℕ) (op : Op) (row : Row) (s : SeenVersion level setup past h n k op row) → StaysTrue setup op.statement s.at.earlier s.base
  stays n k op row s = subst (λ b. StaysTrue setup op.statement s.at.earlier b) (sym s.base_is) (stable s.at.later s.at.txn s.at.earlier s.at.txns_are s.among.front op s.among.earlier s.among.ops_are s.ran)

  -- the writer of a version at or after the seen one commits after the reader, if a matched state before or behind it can't be
  follows : (row : Row) (op : Op) (v p from to : ℕ) → history.IsCommitted h from → from ≢ to → SeesPlace h from op row v → v ≤ p → InstallsAt h row p to
      → ((k : ℕ) (s : SeenVersion level setup past h from k op row) → s.version.state ≡ history.state_at h row v
      → (matches op.statement row (history.state_at h row p) ≡ false) × (matches op.statement row (history.state_at h row (suc p)) ≡ false) → ⊥) → Follows past from to
  follows row op v p from to committed other ((k, is_op), place) above at never =
      let s : SeenVersion level setup past h from k op row = seen_by recorded from k op row (committed, is_op) in
      let r = sees_rank recorded from k op row v s place in
      let y : Installs row (commits past) p to = installer_at recorded row p to at in
      let after = unseen recorded row op v p from to k s y r.place_is above in
      let kept : StaysTrue setup op.statement s.at.earlier s.base = stays from k op row s in
      record { a = s.at; b = y.at; ahead = comes_later recorded row op v p from to k s kept y other after (λ b. never k s r.state_is (unmatched recorded row op v p from to k s kept y other after b)) }

  item_follows : (row : Row) (op : Op) (v from to : ℕ) → history.IsCommitted h from → from ≢ to → SeesPlace h from op row v → Lists op row → InstallsAt h row v to → Follows past from to
  item_follows row op v from to committed other sees lists at = follows row op v v from to committed other sees (omega arith) at
      (λ k s state_is none. lists_match recorded from k op row s lists (ap (matches op.statement row) state_is ∙ none.0))

  predicate_follows : (row : Row) (op : Op) (v p from to : ℕ) → history.IsCommitted h from → from ≢ to → SeesPlace h from op row v → v ≤ p → InstallsAt h row p to
      → changes h op.statement row p ≡ true → Follows past from to
  predicate_follows row op v p from to committed other sees above at differs = follows row op v p from to committed other sees above at (λ k s state_is none. differ_none _ _ none.0 none.1 differs)

  follows_ahead : (from to : ℕ) → Follows past from to → position (commit_order past) from < position (commit_order past) to
  follows_ahead from to f = omega (arith, f.ahead, position_is recorded from f.a, position_is recorded to f.b)

  kind_ahead : (e : Edge) → IsEdge h e → (kind : Kind) → e.kind ≡ kind → Depends h kind e.row e.from e.to → position (commit_order past) e.from < position (commit_order past) e.to
  kind_ahead e edge ItemAnti is (op, v, sees, lists, at) = follows_ahead e.from e.to (item_follows e.row op v e.from e.to edge.0 edge.2 sees lists at)
  kind_ahead e edge PredicateAnti is (op, v, p, sees, above, at, differs) = follows_ahead e.from e.to (predicate_follows e.row op v p e.from e.to edge.0 edge.2 sees above at differs)
  kind_ahead e edge kind is depends = flow_ahead recorded e edge (ap is_anti is)

  -- every edge follows the order of commits
  pub stable_forward : IsForwardOrder h (commit_order past)
  stable_forward e edge = kind_ahead e edge e.kind refl edge.3

  -- so the order of commits is a serial run
  pub stable_serial : IsSerialRun h (commit_order past)
  stable_serial = is_serial h (is_sound recorded) (commit_order past) (each_once recorded) stable_forward

  pub stable_no_walk : NoWalk (IsClosedWalk h)
  stable_no_walk es walk = no_closed_walk h (commit_order past) es stable_forward walk
