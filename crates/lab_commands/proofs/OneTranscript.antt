-- Of one input `serial` says one thing.
use Rattle.std.proofs.Common.{◌≡◌, inl, inr, ℕ, List, sym, ap, ◌∙◌}
use Rattle.lab_statement.specs.declared.fault.ScriptFault.TheVariants as fault
use Rattle.lab_script.{specs.Transcript.{transcript}, proofs.{FirstFault.{fault_spells_nothing}, OneFault.{one_fault, one_script}}}
use Rattle.lab_commands.specs.{Refusals.{script_refused_text, IsRefused}, Serial.{IsSerialAnswer}}
use Rattle.lab_streams.specs.declared.{ending.Ending.{Ending}, reporting.Format.{Format, TheVariants.{Lines}}}

pub one_refusal : (format : Format) (input one other : List ℕ) (first again : Ending) → IsRefused format input one first → IsRefused format input other again → (one ≡ other) × (first ≡ again)
one_refusal format input one other first again r s =
    let same : (r.line ≡ s.line) × (r.kind ≡ s.kind) = one_fault input r.line s.line r.kind s.kind r.faulty s.faulty in (
      r.text_is ∙ ap (λ line. script_refused_text format (fault.At line r.kind)) same.0 ∙ ap (λ kind. script_refused_text format (fault.At s.line kind)) same.1 ∙ sym s.text_is,
      r.refused ∙ sym s.refused,
    )

pub one_transcript : (input one other : List ℕ) (first again : Ending) → IsSerialAnswer input one first → IsSerialAnswer input other again → (one ≡ other) × (first ≡ again)
one_transcript input one other first again (inl t) (inl u) = (t.text_is ∙ ap transcript (one_script input t.script u.script t.spelled u.spelled) ∙ sym u.text_is, t.done ∙ sym u.done)
one_transcript input one other first again (inl t) (inr r) = absurd (fault_spells_nothing input r.line r.kind t.script r.faulty t.spelled)
one_transcript input one other first again (inr r) (inl t) = absurd (fault_spells_nothing input r.line r.kind t.script r.faulty t.spelled)
one_transcript input one other first again (inr r) (inr s) = one_refusal Lines input one other first again r s
