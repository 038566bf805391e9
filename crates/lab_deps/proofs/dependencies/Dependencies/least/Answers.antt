use Rattle.std.{proofs.{Common.{◌≡◌, ◌↔◌, true, sym, subst}, lemmas.Result.{IfOk-weaker}}, specs.Prelude.{Contains, IfOk}}
use Rattle.lab_table.specs.Row.{Row}
use Rattle.lab_deps.{specs.{KindBits.{edge_of}, KindSets.{among}, KindsBetween.{KindsBetween}, LeastEdge.{IsLeastFitting}}, proofs.LeastOfTwo.{IsTold, told}}
use Rattle.lab_deps.proofs.dependencies.Dependencies.least.Goals as goal

pub least_of_two-requires-clause-there : goal.least_of_two-requires-clause-there
least_of_two-requires-clause-there c kind =
    subst (λ (v : KindsBetween). (among c.kinds-there.result kind ≡ true) ↔ ((row : Row) × Contains v.edges (edge_of c.args.from c.args.to kind row))) (sym c.self.view_is) (c.kinds-there.ensures kind)

pub returns : goal.returns
returns c =
    let a = c.args in
    let kinds = among a.kinds in
    let is : IfOk c.least_of_two.result (IsTold a.self.now.edges a.from a.to kinds) =
    IfOk-weaker c.least_of_two.result _ _ (λ found l. told a.self.now.edges a.from a.to kinds found (subst (λ (v : KindsBetween). IsLeastFitting v.edges a.from a.to kinds found) c.self.view_is l)) c.least_of_two.ensures in
    record {
      found = IfOk-weaker c.least_of_two.result _ _ (λ found t. t.there) is;
      from = IfOk-weaker c.least_of_two.result _ _ (λ found t. t.from) is;
      to = IfOk-weaker c.least_of_two.result _ _ (λ found t. t.to) is;
      kind = IfOk-weaker c.least_of_two.result _ _ (λ found t. t.kind) is;
      least = IfOk-weaker c.least_of_two.result _ _ (λ found t. t.least) is;
      none = IfOk-weaker c.least_of_two.result _ _ (λ found t. t.none) is;
    }
