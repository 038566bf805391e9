use Rattle.std.{proofs.Common.{length, sym, ap, ◌∙◌, subst}, specs.Prelude.{IfSome}}
use Rattle.lab_deps.{specs.Turns.{AreKept, AreNumbers}, proofs.NumberedStates.{as_many, none_kept}}
use Rattle.lab_deps.proofs.kept.kept_of.Goals as goal

pub returns-in_default : goal.returns-in_default
returns-in_default c =
    let values = c.args.values.now in
    subst (AreKept values.exact c.args.before.now values.others.items c.args.versions.now) (sym c.new-kept.ensures.items) (none_kept values.exact c.args.before.now values.others.items c.args.versions.now)

pub loop-index-init : goal.loop-index-init
loop-index-init c =
    let values = c.args.values.now in
    subst (AreKept values.exact c.args.before.now values.others.items c.args.versions.now) (sym c.new-kept.ensures.items) (none_kept values.exact c.args.before.now values.others.items c.args.versions.now)

pub keep-requires : goal.keep-requires
keep-requires c =
    let values = c.args.values.now in
    let vs = c.args.versions.now in
    let before = c.args.before.now in
    let are = subst (λ o. IfSome o (λ numbers. AreNumbers values.exact before values.others.items vs numbers.items)) c.in-Some.is c.in_ok-numbers.ensures in
    ap length c.deref.ensures.value ∙ as_many values.exact before values.others.items vs c.in-Some.numbers.items are

pub loop-index-preserved : goal.loop-index-preserved
loop-index-preserved c =
    let values = c.args.values.now in
    let vs = c.args.versions.now in
    let before = c.args.before.now in
    let are = subst (λ o. IfSome o (λ numbers. AreNumbers values.exact before values.others.items vs numbers.items)) c.in-Some.is c.in_ok-numbers.ensures in
    c.in_ok-keep.ensures values.exact before values.others.items (subst (AreNumbers values.exact before values.others.items vs) (sym c.deref.ensures.value) are) c.loop-index.invariant
