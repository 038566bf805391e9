use Rattle.std.proofs.{Common.{◌≡◌, ◌↔◌, true, not, nat_eq, sym, ap, ◌∙◌, subst}, lemmas.Bool.{false≢true}}
use Rattle.lab_deps.proofs.SharedKinds.{IsShared, some_shared, none_shared}
use Rattle.lab_deps.proofs.kinds.Kinds.meets.Goals as goal

pub returns-then-both-ne0 : goal.returns-then-both-ne0
returns-then-both-ne0 c =
    subst (λ b. (b ≡ true) ↔ IsShared c.args.self.bits c.args.other.bits) (sym c.has_any.ensures) (some_shared c.args.self.bits c.args.other.bits)

pub returns-else-both-ne0 : goal.returns-else-both-ne0
returns-else-both-ne0 c = (
  λ some. absurd (false≢true (sym (ap (λ b. not (nat_eq b 0)) c.if-both-ne0.false) ∙ some)),
  λ shared. absurd (none_shared c.args.self.bits c.args.other.bits c.if-both-ne0.false shared),
)
