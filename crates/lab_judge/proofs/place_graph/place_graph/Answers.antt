use Rattle.std.{proofs.Common.{◌*◌, ap, subst, ◌∙◌}, specs.Prelude.{⊤}}
use Rattle.lab_deps.proofs.NamedKinds.{flow_named, antis_named}
use Rattle.lab_judge.{specs.{Joining.{Grows}, PlaceGraphs.{spans}, declared.joining.Joining.TheVariants.{StartToCommit, CommitToStart}}, proofs.Growing.{is_place_graph}}
use Rattle.lab_judge.proofs.place_graph.place_graph.Goals as goal

pub returns : goal.returns
returns c =
    let flow = c.add_arrows_among.new.graph in
    is_place_graph (c.in_ok-graph.ensures.size ∙ ap (λ k. 2 * k) c.len.ensures.count) (λ a b. c.in_ok-graph.ensures.arrows a b ∙ ap (λ k. spans k a b) c.len.ensures.count)
    (subst (λ kinds. Grows kinds CommitToStart c.args.net.now (λ p q. ⊤) c.in_ok-graph.graph flow) flow_named c.in_ok-add_arrows_among.ensures)
    (subst (λ kinds. Grows kinds StartToCommit c.args.net.now (λ p q. ⊤) flow c.add_arrows_among-2.new.graph) antis_named c.in_ok-add_arrows_among-2.ensures)
