-- A session that has run no statement has read nothing.
use Rattle.std.proofs.{Common.{◌≡◌, ◌∙◌, ℕ, sym, ap, arith, Bool, true, false, not, ◌==◌, ◌||◌, inl, inr, List, [], ◌∷◌, length, map, is_some}, lemmas.List.{length-map, length-reverse}}
use Rattle.std.specs.Prelude.{◌↔◌, ◌⊎◌, IsTrue}
use Rattle.lab_engine.proofs.Common.{has, has_read, is_read_only, IsOther, ne_eqb, Op, or_cases, or_left, or_right, Past, reader_writes_none, Row, State, Statement, statements_of, true≢false, Txn}
use Rattle.lab_engine.specs.{declared.{event.Level.TheVariants.{Locking}, session_state.{RunningTxn.{RunningTxn}, SessionState.{SessionState}}, asker.Asker.{Asker}}, Asker.{IsAsker}, Chosen.{is_chosen}, Rules.{HasRead}}
use Rattle.lab_engine.proofs.Choosing.{Tells, chosen_is}
use Rattle.lab_locking.{specs.Reads.{has_run, is_other_runner}, proofs.KnownReaders.{all_asked}}

-- a session of a set, or one of which something holds, where a test says of which it does
pub with_known : (known test result : Bool) (P : Type 0) → result ≡ (known || test) → IsTrue test ↔ P → IsTrue result ↔ (IsTrue known ⊎ P)
with_known known test result P is tells = (
  (λ any. elim (or_cases known test (sym is ∙ any)) [ inl k ↦ inl k | inr t ↦ inr (tells.0 t) ]),
  (λ either. is ∙ elim either [ inl k ↦ or_left known test k | inr p ↦ or_right known test (tells.1 p) ]),
)

-- who has read a row has run a statement
ran_any : (ops : List Op) (row : Row) (old new : State) → IsTrue (has_read ops row old || has_read ops row new) → IsTrue (not (length ops == 0))
ran_any [] row old new read = absurd (true≢false (sym read))
ran_any (op ∷ ops) row old new read = ap not (ne_eqb (length (op ∷ ops)) 0 (λ same. absurd (omega (arith, same))))

-- so of what is kept of a transaction as of the transaction
runs_tell : (past : Past) → Tells Locking past (λ _ running. has_run running) (λ holder. IsTrue (not (length holder.ops == 0)))
runs_tell past other holder running is agrees =
    let same : length (statements_of running) ≡ length holder.ops
    = ap length agrees.statements ∙ length-reverse (map (λ op. op.statement) holder.ops) ∙ length-map {B = Statement} holder.ops (λ op. op.statement) in (
      (λ ran. sym (ap (λ n. not (n == 0)) same) ∙ ran),
      (λ ran. ap (λ n. not (n == 0)) same ∙ ran),
    )

-- a statement that only reads is in nobody's way
pub none_reads : (past : Past) (txn : Txn) (asker : Asker) (s : Statement) (n : ℕ) (known : Bool) → is_read_only s ≡ true
    → IsTrue known ↔ (IsTrue known ⊎ IsOther past asker.session n (HasRead Locking asker.setup.now past txn s))
none_reads past txn asker s n known reads = (
  (λ k. inl k),
  (λ either. elim either [
    | inl k ↦ k
    | inr other ↦ absurd (true≢false (sym other.3.1 ∙ ap is_some (reader_writes_none s reads other.3.0 _)))
  ]),
)

-- where no session but those of a set has run a statement, no other one has read anything
pub no_reader : (past : Past) (txn : Txn) (asker : Asker) (asks : IsAsker Locking past txn asker) (s : Statement) (known n : ℕ) → is_other_runner asker known n ≡ false
    → IsTrue (has known n) ↔ (IsTrue (has known n) ⊎ IsOther past asker.session n (HasRead Locking asker.setup.now past txn s))
no_reader past txn asker asks s known n off = ((λ k. inl k), (λ either. elim either [ inl k ↦ k | inr other ↦ is_known other ]))
  where
    test : ℕ → RunningTxn → Bool
    test other running = has_run running

    states : List SessionState
    states = asker.situation.now.sessions

    is_known : IsOther past asker.session n (HasRead Locking asker.setup.now past txn s) → IsTrue (has known n)
    is_known (holder, ne, active_is, (row, writes, read)) =
        let chosen = (chosen_is past asker.situation.now asker.session test (λ holder. IsTrue (not (length holder.ops == 0))) asks.situation (runs_tell past) n).1
        (holder, ne, active_is, ran_any holder.ops row _ _ read) in
        elim (or_cases (has known n) (is_other_runner asker known n) (all_asked test asker.session known n states ∙ or_right (has known n) (is_chosen test asker.session states n) chosen)) [
          | inl k ↦ k
          | inr asked ↦ absurd (true≢false (sym asked ∙ off))
        ]
