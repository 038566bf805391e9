use Rattle.std.proofs.Common.{◌<◌, sym, subst, arith}
use Rattle.lab_deps.proofs.LookedSpans.{unlisted_before}
use Rattle.lab_deps.proofs.relevant_rows.from_listed.Goals as goal

pub returns-then-place-from-clause-none : goal.returns-then-place-from-clause-none
returns-then-place-from-clause-none g c = λ k d low below.
    unlisted_before c.args.listed.now c.requires.listed c.args.entries.now c.requires.entries c.in-Some.first.now (sym c.in-Some.ensures.value) k d (subst (λ n. k < n) c.place_of-place.ensures.value low)

pub returns-else-place-from-clause-none : goal.returns-else-place-from-clause-none
returns-else-place-from-clause-none g c = λ k d low below.
    unlisted_before c.args.listed.now c.requires.listed c.args.entries.now c.requires.entries c.in-Some.first.now (sym c.in-Some.ensures.value) k d
    (subst (λ n. k < n) c.place_of-place.ensures.value (omega (arith, low, c.if-place-from.false)))
