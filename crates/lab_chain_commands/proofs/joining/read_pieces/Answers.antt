use Rattle.std.{proofs.{Common.{◌≡◌, [], refl, subst, sym, rules}, lemmas.List.Elements.{All-nil}}, specs.Prelude.{max}}
use Rattle.lab_chain_commands.{specs.JoinAnswers.{IsNamed, piece_status}, proofs.PiecesRead.{AreRead, next_read}}
use Rattle.lab_chain_commands.proofs.joining.read_pieces.Goals as goal

pub loop-name-init : goal.loop-name-init
loop-name-init g c = ([], refl, All-nil IsNamed, c.nothing-summary.ensures, c.new-refusals.ensures.items, refl)

pub loop-name-preserved : goal.loop-name-preserved
loop-name-preserved g c =
    let status : c.max-status.result ≡ max c.loop-name.status (piece_status c.in_ok-piece.piece) = search rules in
    subst (AreRead c.args.asked.format _ c.in_ok-summary.summary c.put_refusal.new.out.items) (sym status)
    (next_read c.args.asked.format c.args.names.now c.loop-name.name-index _ c.loop-name-test.true c.in_ok-piece.piece c.loop-name.summary c.in_ok-summary.summary c.loop-name.refusals.items
    c.put_refusal.new.out.items c.loop-name.status c.loop-name.invariant c.in_ok-piece.ensures c.in_ok-summary.ensures c.in_ok-put_refusal.ensures)
