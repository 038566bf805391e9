-- Where of a history one thing is told, of an input one thing is said.
use Rattle.std.proofs.Common.{◌≡◌, inl, inr, ℕ, None, List, sym, ap, subst, ◌∙◌}
use Rattle.lab_history.specs.History.{History}
use Rattle.lab_history_file.proofs.OneFile.{one_history, no_file_fault, one_fault}
use Rattle.lab_streams.specs.{HistoryFile.{IsToldOf}, Reports.{refused_text}, declared.{reporting.Format.{Format}, ending.Ending.{Ending}}}

module _ (format : Format) (Tells : History → List ℕ → Ending → Type 0) (one_of : (h : History) (one other : List ℕ) (first again : Ending) → Tells h one first → Tells h other again → (one ≡ other) × (first ≡ again))
    (input one other : List ℕ) (first again : Ending) where
  pub one_told : IsToldOf format Tells input one first → IsToldOf format Tells input other again → (one ≡ other) × (first ≡ again)
  one_told (inl t) (inl u) = one_of t.history one other first again t.told (subst (λ h. Tells h other again) (one_history input u.history t.history u.held t.held) u.told)
  one_told (inl t) (inr n) = absurd (no_file_fault input t.history n.fault t.held n.faulty)
  one_told (inr n) (inl t) = absurd (no_file_fault input t.history n.fault t.held n.faulty)
  one_told (inr n) (inr m) = (n.text_is ∙ ap (refused_text format None) (one_fault input n.fault m.fault n.faulty m.faulty) ∙ sym m.text_is, n.refused ∙ sym m.refused)
