use Rattle.std.proofs.Common.{◌<◌, sym, subst, arith}
use Rattle.lab_deps.proofs.LookedSpans.{unlisted_behind}
use Rattle.lab_deps.proofs.relevant_rows.to_listed.Goals as goal

pub returns-then-place-to-clause-none : goal.returns-then-place-to-clause-none
returns-then-place-to-clause-none g c = λ k d at below.
    unlisted_behind c.args.listed.now c.requires.listed c.args.entries.now c.requires.entries c.in-Some.last.now (sym c.in-Some.ensures.value) k d
    (subst (λ n. n < k) c.place_of-place.ensures.value (omega (arith, at, c.if-place-to.true))) below

pub returns-then-place-entries-clause-none : goal.returns-then-place-entries-clause-none
returns-then-place-entries-clause-none g c = λ k d at below.
    unlisted_behind c.args.listed.now c.requires.listed c.args.entries.now c.requires.entries c.in-Some.last.now (sym c.in-Some.ensures.value) k d
    (subst (λ n. n < k) c.place_of-place.ensures.value (omega (arith, at))) below
