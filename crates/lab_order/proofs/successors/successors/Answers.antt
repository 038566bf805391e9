use Rattle.std.{proofs.{Common.{◌≡◌, ◌∙◌, ◌+◌, ℕ, cond, sym, ap, subst, arith, length}, lemmas.List.{with_items_is}}, specs.Prelude.{◌==◌, nat_lt}}
use Rattle.lab_order.{specs.{Arrows.{before}, Counts.{how_often, after}}, proofs.Transposed.{noted_next, noted_all}}
use Rattle.lab_order.proofs.successors.successors.Goals as goal

pub loop-node-preserved : goal.loop-node-preserved
loop-node-preserved c =
    let made = with_items_is c.loop-node.rows c.note_successor.new.rows (c.in_ok-note_successor.ensures.size ∙ c.deref_mut.ensures.len) in
    record {
      size = ap length made ∙ c.in_ok-note_successor.ensures.size ∙ ap length c.deref_mut.ensures.value ∙ c.loop-node.invariant.size;
      noted = subst (λ rows. (from to : ℕ) → how_often (after rows from) to ≡ cond (nat_lt to (c.loop-node.node + 1)) (how_often (before c.args.graph.now to) from) 0) (sym made)
          (noted_next c.args.graph.now c.loop-node.rows.items c.loop-node.node c.loop-node.invariant.noted c.note_successor.new.rows c.before-in-loop-node.result.now
          c.before-in-loop-node.ensures.nodes
          (subst (λ rows. (from to : ℕ) → how_often (after c.note_successor.new.rows from) to ≡ how_often (after rows from) to + cond (c.loop-node.node == to)
          (how_often c.before-in-loop-node.result.now from) 0) c.deref_mut.ensures.value c.in_ok-note_successor.ensures.noted));
    }

pub returns-clause-transposed : goal.returns-clause-transposed
returns-clause-transposed c = noted_all c.args.graph.now c.loop-node.rows.items c.loop-node.node c.loop-node.invariant.noted (omega arith)
