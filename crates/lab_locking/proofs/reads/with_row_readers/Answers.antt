use Rattle.std.proofs.Common.{◌∙◌, ℕ, Bool, ap, ◌||◌, rules}
use Rattle.lab_engine.{proofs.Common.{has}, specs.declared.session_state.RunningTxn.{RunningTxn}}
use Rattle.lab_locking.{specs.Reads.{has_read_either}, proofs.KnownReaders.{asked, all_asked}}
use Rattle.lab_locking.proofs.reads.with_row_readers.Goals as goal

pub returns : goal.returns
returns c = λ n.
    let asker = c.args.asker.now in
    let test : ℕ → RunningTxn → Bool = λ _ running. has_read_either c.args.row c.args.old c.args.new running in
    c.with.ensures n
    ∙ ap (λ b. has c.args.known n || b) (c.others_that.ensures (asked test asker.session c.args.known n) (λ other running b post. search rules) n)
    ∙ all_asked test asker.session c.args.known n asker.situation.now.sessions
