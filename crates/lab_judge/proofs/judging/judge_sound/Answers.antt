use Rattle.lab_deps.specs.KindSets.{is_any}
use Rattle.lab_judge.{specs.Graphs.{IsNetOf}, proofs.Reports.{of_sound}}
use Rattle.lab_judge.proofs.judging.judge_sound.Goals as goal

pub returns : goal.returns
returns c =
    let h = c.args.history.now in
    let found = c.in_ok-net.ensures in
    let of : IsNetOf h is_any c.in_ok-net.net = record {
      committed = record { each_once = found.nodes.each_once; rising = found.nodes.rising };
      edges = λ e. (found.edges e).0;
      all = λ e edge kind. (found.edges e).1 edge;
    } in
    let serial = c.in_ok-serial.ensures h of in
    of_sound h c.requires _ serial (c.in_ok-snapshot.ensures h of) (c.in_ok-found.ensures h c.requires of serial)
