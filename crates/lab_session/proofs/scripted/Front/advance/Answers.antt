use Rattle.std.{proofs.Common.{◌≡◌, ◌+◌, refl, sym, ap, subst, arith}, specs.Prelude.{slice_index_or, unwrap_or}}
use Rattle.lab_session.{specs.UnderWay.{IsBehind}, proofs.Fronts.{front_more, covered_more}}
use Rattle.lab_session.proofs.scripted.Front.advance.Goals as goal

pub loop-place-preserved : goal.loop-place-preserved
loop-place-preserved c =
    let front = c.loop-place.self in
    let line = c.index-lines-place.result in
    let before = c.loop-place.invariant in
    record {
      place = refl;
      behind = subst (λ k. IsBehind c.args.lines.now (record { lines = k + 1; of_sessions = c.count.new.counts })) before.place
          (front_more c.args.lines.now front line before.behind (omega (arith, before.place, c.loop-place-test.true))
          (subst (λ k. line ≡ slice_index_or c.args.lines.now k line) (sym before.place) c.index-lines-place.is) c.count.ensures.session c.count.new.counts c.count.ensures.counts);
      covered = λ past counted covered. covered_more past front c.args.counts.now c.count.new.counts line.session (c.loop-place.place + 1) counted (before.covered past counted covered)
          c.count.ensures.session c.count.ensures.counts
          (omega (arith, c.if-get.false, ap (λ o. unwrap_or o 0) c.get.ensures.value, ap (λ o. unwrap_or o 0) c.get-in-loop-place.ensures.value));
    }
