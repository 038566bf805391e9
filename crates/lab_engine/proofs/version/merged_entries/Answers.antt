use Rattle.lab_engine.proofs.{Common.{ap, arith, drop, drop_more, merged, sym, take, without_row, [], ◌++◌, ◌+◌, ◌∙◌, ◌∷◌, ◌≡◌}, Merging.{merge_step}}
use Rattle.lab_engine.proofs.version.merged_entries.Goals as goal

pub loop-entry-preserved : goal.loop-entry-preserved
loop-entry-preserved c =
    let rest : c.behind-left.result.now ≡ without_row c.entry-item.result.0 (drop c.place_near.result c.loop-entry.left.now) =
    c.behind-left.ensures ∙ ap (without_row c.entry-item.result.0) c.split_at.ensures.back in
    let news : c.push.new.self.items ≡ (c.loop-entry.entries.items ++ take c.place_near.result c.loop-entry.left.now) ++ c.entry-item.result ∷ [] =
    c.in_ok-push.ensures.items ∙ ap (λ l. l ++ c.entry-item.result ∷ []) (c.in_ok-extend_from_slice.ensures.items ∙ ap (λ l. c.loop-entry.entries.items ++ l) c.split_at.ensures.front) in
    let next : drop c.loop-entry.entry-index c.args.over.now ≡ c.entry-item.result ∷ drop (c.loop-entry.entry-index + 1) c.args.over.now =
    drop_more c.args.over.now c.loop-entry.entry-index c.entry-item.result (omega arith) ∙ ap (λ e. e ∷ drop (c.loop-entry.entry-index + 1) c.args.over.now) (sym c.entry-item.is) in
    merge_step c.loop-entry.entries.items c.push.new.self.items c.loop-entry.left.now c.behind-left.result.now (drop (c.loop-entry.entry-index + 1) c.args.over.now)
    (merged c.args.under.now c.args.over.now)
    c.entry-item.result c.place_near.result (ap (λ l. c.loop-entry.entries.items ++ merged c.loop-entry.left.now l) (sym next) ∙ c.loop-entry.invariant) c.place_near.ensures.value news rest
