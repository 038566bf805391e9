use Rattle.lab_engine.proofs.{Common.{has_written, is_none, is_some, refl, sym, ◌&&◌, ◌||◌, ◌∙◌, get}, SessionStates.{runs_on}}
use Rattle.lab_engine.proofs.session_state.RunningTxn.run.Goals as goal

pub returns-clause-txn : goal.returns-clause-txn
returns-clause-txn c level txn op running pending kept writes =
    let old = c.args.self.now in
    runs_on level txn op old _ running refl refl refl c.args.kept kept c.keep.ensures
    (λ row. c.note_new.ensures row ∙ (λ i. has_written old row || (is_some (get ((sym writes) i) row) && is_none (pending row i))))
