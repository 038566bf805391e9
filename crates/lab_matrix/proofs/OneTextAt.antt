-- There is one text of the cases at levels, and where there is none one refusal.
use Rattle.std.proofs.{Common.{◌≡◌, inl, inr, List, [], ◌∷◌, refl, sym, ap, ◌∙◌, subst, arith}, lemmas.Bool.{cases_lt}}
use Rattle.lab_engine.specs.declared.event.Level.{Level}
use Rattle.lab_session.{specs.{Play.{given_lines}, declared.fault.PlayFault.{PlayFault}}, proofs.OnePlay.{one_fault}}
use Rattle.lab_matrix.specs.{Listings.{usual_setup, listing}, Matrix.{IsUnrecorded, case_place}, Columns.{AreReports, AllRecorded, IsFirstAt, AreColumns, IsFirstAmong}, declared.{columns.CaseReports.{CaseReports}, filling.MatrixFault.TheVariants.{Play}, name.CaseName.{CaseName}}}
use Rattle.lab_matrix.specs.declared.name.CaseName.TheVariants as name
use Rattle.lab_matrix.proofs.{AtLevels.{all_recorded}, CasePlays.{same_place}, OneMatrix.{one_cell, not_both}}

-- reports whose parts are the same are one
same_reports : (r s : CaseReports) → r.level ≡ s.level → r.g0 ≡ s.g0 → r.g1a ≡ s.g1a → r.g1b ≡ s.g1b → r.g1c ≡ s.g1c → r.otv ≡ s.otv → r.pmp ≡ s.pmp → r.p4 ≡ s.p4 → r.g_single ≡ s.g_single → r.g2_item ≡ s.g2_item → r.g2 ≡ s.g2 → r ≡ s
same_reports r s level g0 g1a g1b g1c otv pmp p4 g_single g2_item g2 =
    ap (λ x. record { level = x; g0 = r.g0; g1a = r.g1a; g1b = r.g1b; g1c = r.g1c; otv = r.otv; pmp = r.pmp; p4 = r.p4; g_single = r.g_single; g2_item = r.g2_item; g2 = r.g2 }) level
    ∙ ap (λ x. record { level = s.level; g0 = x; g1a = r.g1a; g1b = r.g1b; g1c = r.g1c; otv = r.otv; pmp = r.pmp; p4 = r.p4; g_single = r.g_single; g2_item = r.g2_item; g2 = r.g2 }) g0
    ∙ ap (λ x. record { level = s.level; g0 = s.g0; g1a = x; g1b = r.g1b; g1c = r.g1c; otv = r.otv; pmp = r.pmp; p4 = r.p4; g_single = r.g_single; g2_item = r.g2_item; g2 = r.g2 }) g1a
    ∙ ap (λ x. record { level = s.level; g0 = s.g0; g1a = s.g1a; g1b = x; g1c = r.g1c; otv = r.otv; pmp = r.pmp; p4 = r.p4; g_single = r.g_single; g2_item = r.g2_item; g2 = r.g2 }) g1b
    ∙ ap (λ x. record { level = s.level; g0 = s.g0; g1a = s.g1a; g1b = s.g1b; g1c = x; otv = r.otv; pmp = r.pmp; p4 = r.p4; g_single = r.g_single; g2_item = r.g2_item; g2 = r.g2 }) g1c
    ∙ ap (λ x. record { level = s.level; g0 = s.g0; g1a = s.g1a; g1b = s.g1b; g1c = s.g1c; otv = x; pmp = r.pmp; p4 = r.p4; g_single = r.g_single; g2_item = r.g2_item; g2 = r.g2 }) otv
    ∙ ap (λ x. record { level = s.level; g0 = s.g0; g1a = s.g1a; g1b = s.g1b; g1c = s.g1c; otv = s.otv; pmp = x; p4 = r.p4; g_single = r.g_single; g2_item = r.g2_item; g2 = r.g2 }) pmp
    ∙ ap (λ x. record { level = s.level; g0 = s.g0; g1a = s.g1a; g1b = s.g1b; g1c = s.g1c; otv = s.otv; pmp = s.pmp; p4 = x; g_single = r.g_single; g2_item = r.g2_item; g2 = r.g2 }) p4
    ∙ ap (λ x. record { level = s.level; g0 = s.g0; g1a = s.g1a; g1b = s.g1b; g1c = s.g1c; otv = s.otv; pmp = s.pmp; p4 = s.p4; g_single = x; g2_item = r.g2_item; g2 = r.g2 }) g_single
    ∙ ap (λ x. record { level = s.level; g0 = s.g0; g1a = s.g1a; g1b = s.g1b; g1c = s.g1c; otv = s.otv; pmp = s.pmp; p4 = s.p4; g_single = s.g_single; g2_item = x; g2 = r.g2 }) g2_item
    ∙ ap (λ x. record { level = s.level; g0 = s.g0; g1a = s.g1a; g1b = s.g1b; g1c = s.g1c; otv = s.otv; pmp = s.pmp; p4 = s.p4; g_single = s.g_single; g2_item = s.g2_item; g2 = x }) g2

-- a level has one column
one_column_at : (level : Level) (r s : CaseReports) → AreReports level r → AreReports level s → r ≡ s
one_column_at level r s x y =
    same_reports r s (x.at_level ∙ sym y.at_level)
    (one_cell name.G0 level r.g0 s.g0 (x.cells name.G0) (y.cells name.G0))
    (one_cell name.G1a level r.g1a s.g1a (x.cells name.G1a) (y.cells name.G1a))
    (one_cell name.G1b level r.g1b s.g1b (x.cells name.G1b) (y.cells name.G1b))
    (one_cell name.G1c level r.g1c s.g1c (x.cells name.G1c) (y.cells name.G1c))
    (one_cell name.Otv level r.otv s.otv (x.cells name.Otv) (y.cells name.Otv))
    (one_cell name.Pmp level r.pmp s.pmp (x.cells name.Pmp) (y.cells name.Pmp))
    (one_cell name.P4 level r.p4 s.p4 (x.cells name.P4) (y.cells name.P4))
    (one_cell name.GSingle level r.g_single s.g_single (x.cells name.GSingle) (y.cells name.GSingle))
    (one_cell name.G2Item level r.g2_item s.g2_item (x.cells name.G2Item) (y.cells name.G2Item))
    (one_cell name.G2 level r.g2 s.g2 (x.cells name.G2) (y.cells name.G2))

-- so levels have one list of columns
pub one_list : (levels : List Level) (r s : List CaseReports) → AreColumns levels r → AreColumns levels s → r ≡ s
one_list [] [] [] a b = refl
one_list [] [] (y ∷ s) a b = absurd b
one_list [] (x ∷ r) s a b = absurd a
one_list (level ∷ levels) [] s a b = absurd a
one_list (level ∷ levels) (x ∷ r) [] a b = absurd b
one_list (level ∷ levels) (x ∷ r) (y ∷ s) a b = ap (λ column. column ∷ r) (one_column_at level x y a.0 b.0) ∙ ap (λ columns. y ∷ columns) (one_list levels r s a.1 b.1)

-- where all plays at a level have recordings none is refused
not_first_at : (level at : Level) (case : CaseName) (fault : PlayFault) → AllRecorded level → IsFirstAt level (Play case at fault) → ⊥
not_first_at level at case fault all (at_is, faulty, earlier) = not_both case level fault (all case) (subst (λ l. IsUnrecorded case l fault) at_is faulty)

-- so a list of columns excludes a refusal
pub none_refused_at : (at : Level) (case : CaseName) (fault : PlayFault) (levels : List Level) (columns : List CaseReports) → AreColumns levels columns
    → IsFirstAmong levels (Play case at fault) → ⊥
none_refused_at at case fault [] columns are refused = refused
none_refused_at at case fault (level ∷ levels) [] are refused = are
none_refused_at at case fault (level ∷ levels) (column ∷ columns) are (inl first) = not_first_at level at case fault (all_recorded level column are.0) first
none_refused_at at case fault (level ∷ levels) (column ∷ columns) are (inr later) = none_refused_at at case fault levels columns are.1 later.1

-- one refusal is the first at a level
module _ (level at under : Level) (case other : CaseName) (fault again : PlayFault) (a : IsFirstAt level (Play case at fault)) (b : IsFirstAt level (Play other under again)) where
  faulty : IsUnrecorded case level fault
  faulty = subst (λ l. IsUnrecorded case l fault) a.0 a.1

  told : IsUnrecorded other level again
  told = subst (λ l. IsUnrecorded other l again) b.0 b.1

  one_case : case ≡ other
  one_case = elim (cases_lt (case_place case) (case_place other)) [
    | inl less ↦ absurd (not_both case level fault (b.2 case less) faulty)
    | inr above ↦ elim (cases_lt (case_place other) (case_place case)) [
      | inl more ↦ absurd (not_both other level again (a.2 other more) told)
      | inr same ↦ same_place case other (omega (arith, above, same))
    ]
  ]

  one_first_at : fault ≡ again
  one_first_at =
      let moved : IsUnrecorded case level again = subst (λ c. IsUnrecorded c level again) (sym one_case) told in
      one_fault level usual_setup (given_lines (listing case)) fault again faulty.0 moved.0 faulty.1 moved.1

-- and among levels
pub one_first_among : (at under : Level) (case other : CaseName) (fault again : PlayFault) (levels : List Level) → IsFirstAmong levels (Play case at fault)
    → IsFirstAmong levels (Play other under again) → fault ≡ again
one_first_among at under case other fault again [] a b = absurd a
one_first_among at under case other fault again (level ∷ levels) (inl a) (inl b) = one_first_at level at under case other fault again a b
one_first_among at under case other fault again (level ∷ levels) (inl a) (inr b) = absurd (not_first_at level at case fault b.0 a)
one_first_among at under case other fault again (level ∷ levels) (inr a) (inl b) = absurd (not_first_at level under other again a.0 b)
one_first_among at under case other fault again (level ∷ levels) (inr a) (inr b) = one_first_among at under case other fault again levels a.1 b.1
