use Rattle.lab_engine.proofs.{Common.{ap, arith, get_or, length, None, pending_of, Some, sym, vec_capacity, ◌-◌, ◌<◌, ◌∙◌, ◌≡◌}, PendingVersions.{own_place, place_left, roomy_moved}, row_state.RowState.install.Goals.{After-set}}
use Rattle.lab_engine.proofs.row_state.RowState.install.Goals as goal

-- the version to be installed stands in the session's place
there : (c : After-set) → get_or c.self.inside.pending (c.args.session - 1) None ≡ Some c.in-Some.version
there c = sym (own_place c.self.inside.pending c.args.session c.set.ensures.low None) ∙ ap (λ kept. pending_of kept c.args.session) c.self.view_is ∙ sym c.in-Some.ensures

pub push_reserved-requires : goal.push_reserved-requires
push_reserved-requires c =
    let size = c.self.inside.installed.ok.0 in
    let room : length c.self.inside.installed.items < vec_capacity c.self.inside.installed
    = place_left _ _ c.self.inside.pending c.self.invariant (c.args.session - 1) (omega (arith, c.set.ensures.low, c.set.ensures.high)) None c.in-Some.version (there c.before) in
    omega (arith, room, size)

pub invariant_of-self : goal.invariant_of-self
invariant_of-self c =
    let more = c.push_reserved.ensures.capacity in
    let old = c.self.inside.installed.ok.0 in let new = c.push_reserved.new.self.ok.0 in
    roomy_moved _ _ c.self.inside.pending c.self.invariant (c.args.session - 1) (omega (arith, c.set.ensures.low, c.set.ensures.high)) None c.in-Some.version _ _ _ (there c.before.before)
    c.set.ensures.values (omega (arith, c.push_reserved.ensures.len, old, new)) (omega (arith, more))
