-- Of one input `compare` says one thing.
use Rattle.std.proofs.Common.{◌≡◌, inl, inr, ℕ, List, [], ◌∷◌, refl, sym, ap, subst, ◌∙◌}
use Rattle.lab_script.{specs.declared.script.Script.{Script}, proofs.{FirstFault.{fault_spells_nothing}, OneFault.{one_script}}}
use Rattle.lab_engine.specs.declared.event.Level.{Level}
use Rattle.lab_session.specs.PlayFaultText.{play_fault_text}
use Rattle.lab_judge.{specs.Judgement.{IsExactJudgement}, proofs.OneJudgement.{one_judgement}}
use Rattle.lab_streams.specs.declared.{ending.Ending.{Ending}, reporting.Format.TheVariants.{Lines}}
use Rattle.lab_commands.proofs.{OneRun.{one_recorded}, OneTranscript.{one_refusal}}
use Rattle.lab_compare.{specs.{Answer.{IsSide, AreSides, IsCompared, IsFirstRefusal, IsUncompared, IsCompareAnswer}, Comparison.{side_of, comparison_text}, declared.side.Side.{Side}}, proofs.FirstRefusals.{none_refused, fault_unique}}

-- a play has one side
side_unique : (at : Level) (script : Script) (s t : Side) → IsSide at script s → IsSide at script t → s ≡ t
side_unique at script s t a b =
    let same : b.recording ≡ a.recording = one_recorded at script b.recording a.recording b.played a.played in
    let report : a.report ≡ b.report = one_judgement a.recording.history a.report b.report a.judgement (subst (λ r. IsExactJudgement r.history b.report) same b.judgement) in
    a.side_is ∙ ap (side_of at script.lines a.recording) report ∙ ap (λ r. side_of at script.lines r b.report) (sym same) ∙ sym b.side_is

-- so there is one list of sides
sides_unique : (script : Script) (levels : List Level) (s t : List Side) → AreSides script levels s → AreSides script levels t → s ≡ t
sides_unique script [] [] [] a b = refl
sides_unique script [] [] (y ∷ t) a b = absurd b
sides_unique script [] (x ∷ s) t a b = absurd a
sides_unique script (level ∷ levels) [] t a b = absurd a
sides_unique script (level ∷ levels) (x ∷ s) [] a b = absurd b
sides_unique script (level ∷ levels) (x ∷ s) (y ∷ t) a b =
    ap (λ side. side ∷ s) (side_unique level script x y a.0 b.0) ∙ ap (λ sides. y ∷ sides) (sides_unique script levels s t a.1 b.1)

-- what is compared isn't refused
not_both : (levels : List Level) (input one other : List ℕ) (first again : Ending) → IsCompared levels input one first → IsUncompared levels input other again → ⊥
not_both levels input one other first again p u =
    let script : u.script ≡ p.script = one_script input u.script p.script u.spelled p.spelled in
    none_refused p.script u.fault u.told_why levels p.sides p.are_sides (subst (λ s. IsFirstRefusal s levels u.fault) script u.first)

module _ (levels : List Level) (input one other : List ℕ) (first again : Ending) where
  one_comparison : IsCompared levels input one first → IsCompared levels input other again → (one ≡ other) × (first ≡ again)
  one_comparison p q =
      let script : q.script ≡ p.script = one_script input q.script p.script q.spelled p.spelled in
      let sides : p.sides ≡ q.sides = sides_unique p.script levels p.sides q.sides p.are_sides (subst (λ s. AreSides s levels q.sides) script q.are_sides) in (
        p.text_is ∙ ap (comparison_text p.script) sides ∙ ap (λ s. comparison_text s q.sides) (sym script) ∙ sym q.text_is,
        p.done ∙ sym q.done,
      )

  one_line : IsUncompared levels input one first → IsUncompared levels input other again → (one ≡ other) × (first ≡ again)
  one_line u w =
      let script : w.script ≡ u.script = one_script input w.script u.script w.spelled u.spelled in (
        u.text_is
            ∙ ap play_fault_text (fault_unique u.script u.fault w.fault u.told_why w.told_why levels u.first (subst (λ s. IsFirstRefusal s levels w.fault) script w.first))
            ∙ sym w.text_is,
        u.refused ∙ sym w.refused,
      )

  pub one_answer : IsCompareAnswer levels input one first → IsCompareAnswer levels input other again → (one ≡ other) × (first ≡ again)
  one_answer (inl p) (inl q) = one_comparison p q
  one_answer (inl p) (inr (inl r)) = absurd (fault_spells_nothing input r.line r.kind p.script r.faulty p.spelled)
  one_answer (inl p) (inr (inr u)) = absurd (not_both levels input one other first again p u)
  one_answer (inr (inl r)) (inl p) = absurd (fault_spells_nothing input r.line r.kind p.script r.faulty p.spelled)
  one_answer (inr (inl r)) (inr (inl s)) = one_refusal Lines input one other first again r s
  one_answer (inr (inl r)) (inr (inr u)) = absurd (fault_spells_nothing input r.line r.kind u.script r.faulty u.spelled)
  one_answer (inr (inr u)) (inl p) = absurd (not_both levels input other one again first p u)
  one_answer (inr (inr u)) (inr (inl r)) = absurd (fault_spells_nothing input r.line r.kind u.script r.faulty u.spelled)
  one_answer (inr (inr u)) (inr (inr w)) = one_line u w
