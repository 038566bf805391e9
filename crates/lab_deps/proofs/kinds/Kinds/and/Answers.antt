use Rattle.std.{proofs.Common.{sym, ap, ◌∙◌, inl, inr}, specs.Prelude.{bit_or}}
use Rattle.lab_deps.{specs.KindBits.{has_bit}, proofs.ToldKinds.{kinds_apart, bit_set, bit_other}}
use Rattle.lab_deps.proofs.kinds.Kinds.and.Goals as goal

pub returns-clause-more : goal.returns-clause-more
returns-clause-more c = ap (λ b. has_bit (bit_or c.args.self.bits b) c.args.kind) c.bit.ensures ∙ bit_set c.args.self.bits c.args.kind

pub returns-clause-others : goal.returns-clause-others
returns-clause-others c other differ =
    elim (kinds_apart c.args.kind other) [
      | inl same ↦ absurd (differ (sym same))
      | inr off ↦ ap (λ b. has_bit (bit_or c.args.self.bits b) other) c.bit.ensures ∙ bit_other c.args.self.bits c.args.kind other off
    ]
