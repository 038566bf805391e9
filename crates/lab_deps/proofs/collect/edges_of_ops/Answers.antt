use Rattle.std.{proofs.{Common.{◌≡◌, ◌+◌, ◌++◌, ◌∷◌, drop, refl, sym, ap, ◌∙◌, subst, append_assoc}, lemmas.{List.{append-nil, drop_all, drop_more}, Result.{IfOk-weaker}}}, specs.List.{flat_map}}
use Rattle.lab_deps.{specs.EdgesByRow.{HasMembersOf, found_by}, proofs.SameMembers.{joined_members, members_of, members_through}}
use Rattle.lab_deps.proofs.collect.edges_of_ops.Goals as goal

pub loop-op-preserved : goal.loop-op-preserved
loop-op-preserved c ps fits =
    let f = found_by c.args.history.now c.args.txn in
    let all = flat_map f c.args.ops.now in
    let old = c.loop-op.edges.items in
    let behind = drop (c.loop-op.op-index + 1) c.args.ops.now in
    let left : drop c.loop-op.op-index c.args.ops.now ≡ c.op-item.result ∷ behind =
    drop_more c.args.ops.now c.loop-op.op-index c.op-item.result c.loop-op-test.true ∙ ap (λ op. op ∷ behind) (sym c.op-item.is) in
    let so_far = subst (λ ops. HasMembersOf (old ++ flat_map f ops) all) left (c.loop-op.invariant ps fits) in
    let tidy = c.without_doubles.new.edges.items in
    let has = members_of tidy c.add_op.new.sink.items (old ++ f c.op-item.result) c.in_ok-most.ensures (c.in_ok-add_op.ensures ps old (λ _. refl) fits) in
    members_through (tidy ++ flat_map f behind) ((old ++ f c.op-item.result) ++ flat_map f behind) all (joined_members tidy (old ++ f c.op-item.result) (flat_map f behind) has)
    (subst (λ es. HasMembersOf es all) (sym (append_assoc old (f c.op-item.result) (flat_map f behind))) so_far)

pub returns : goal.returns
returns c =
    let f = found_by c.args.history.now c.args.txn in
    let all = flat_map f c.args.ops.now in
    let edges = c.loop-op.edges.items in
    let none = drop_all c.loop-op.op-index c.args.ops.now c.loop-op-test.false in
    IfOk-weaker c.in_order.result _ _
    (λ ordered same ps fits.
    let so_far = subst (λ ops. HasMembersOf (edges ++ flat_map f ops) all) none (c.loop-op.invariant ps fits) in
    members_through ordered.items edges all same (subst (λ es. HasMembersOf es all) (append-nil edges) so_far))
    c.in_order.ensures.same
