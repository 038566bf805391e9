-- A history has one judgement.
use Rattle.std.{proofs.{Common.{◌≡◌, ℕ, zero, suc, ◌<◌, Bool, true, false, List, length, inr, refl, sym, ap, ◌∙◌, subst, arith}, lemmas.{List.{same_lists}, Option.{slice_get-get_or}}}, specs.Prelude.{unwrap_or}}
use Rattle.lab_history.specs.History.{History}
use Rattle.lab_table.specs.Row.{Row}
use Rattle.lab_deps.{proofs.FaultOrders.{one_of_kind}, specs.{FaultOrder.{IsFirstRead}, KindSets.{is_any, is_write, is_flow, is_anti, is_item_anti}, Refusal.{is_uncommitted_read}, Soundness.{Stands}}}
use Rattle.lab_deps.specs.declared.{edge.Edge.{Edge}, fault.{LocalFault.{LocalFault, TheVariants.{AbortedRead, IntermediateRead}}}}
use Rattle.lab_judge.specs.{Judgement.{FindsWalk, FindsFault, JudgesAll, JudgesReads, JudgesNothing, JudgesAtRead, Judges, IsExactJudgement}, LeastWalks.{FindsDue, FindsDueWalks}, Phenomena.{IsG0, IsG1c, IsGSingle, IsG2Item, IsG2}}
use Rattle.lab_judge.specs.Findings as found
use Rattle.lab_judge.specs.declared.{report.{Finding.{Finding, TheVariants.{Absent, Walk, At, NotJudged}}, Grade.{Grade}, Report.{Report}}, serial.Serial.{Serial}}
use Rattle.lab_judge.specs.declared.serial.Serial.TheVariants as serial
use Rattle.lab_judge.proofs.{Agreeing.{serial_agrees, snapshot_agrees}, Grades.{one_grade}, OneWalk.{one_back_walk}, OneOpenedRound.{one_opened_round}}

-- where of each kind of walk there is one due, two exact findings are one
one_found : (P D : List Edge → Type 0) → ((es fs : List Edge) → D es → D fs → es ≡ fs) → (x y : Finding) → FindsWalk P x → FindsWalk P y → FindsDue D x → FindsDue D y → x ≡ y
one_found P D one Absent Absent p q d e = refl
one_found P D one Absent (Walk walk) p q d e = absurd (p walk q)
one_found P D one (Walk walk) Absent p q d e = absurd (q walk p)
one_found P D one (Walk walk) (Walk other) p q d e = ap (λ w. Walk w) (one walk other d e)
one_found P D one (At n k row) y p q d e = absurd p
one_found P D one NotJudged y p q d e = absurd p
one_found P D one x y p q d e = absurd q

-- two first places of one kind of fault are one place
abbrev AgreesOn : History → (ℕ → ℕ → Row → LocalFault) → Type 0
AgreesOn h made = (n k : ℕ) (row : Row) (m j : ℕ) (other : Row) → Stands h (made n k row) × IsFirstRead h made n k row → Stands h (made m j other) × IsFirstRead h made m j other → At n k row ≡ At m j other

aborted_agrees : (h : History) → AgreesOn h AbortedRead
aborted_agrees h n k row m j other p q =
    let same = one_of_kind h (AbortedRead n k row) (AbortedRead m j other) refl p.0 q.0 (λ c. q.1 n k row p.0 (inr (refl, c))) (λ c. p.1 m j other q.0 (inr (refl, c))) in
    cc

intermediate_agrees : (h : History) → AgreesOn h IntermediateRead
intermediate_agrees h n k row m j other p q =
    let same = one_of_kind h (IntermediateRead n k row) (IntermediateRead m j other) refl p.0 q.0 (λ c. q.1 n k row p.0 (inr (refl, c))) (λ c. p.1 m j other q.0 (inr (refl, c))) in
    cc

one_read : (h : History) (made : ℕ → ℕ → Row → LocalFault) → AgreesOn h made → (x y : Finding) → FindsFault h made x → FindsFault h made y → x ≡ y
one_read h made agrees Absent Absent p q = refl
one_read h made agrees Absent (At n k row) p q = absurd (p n k row q.0)
one_read h made agrees (At n k row) Absent p q = absurd (q n k row p.0)
one_read h made agrees (At n k row) (At m j other) p q = agrees n k row m j other p q
one_read h made agrees (Walk walk) y p q = absurd p
one_read h made agrees NotJudged y p q = absurd p
one_read h made agrees x y p q = absurd q

-- lists of as many findings that have the same at each place are one
same_by : (n : ℕ) (p q : List Finding) → length p ≡ n → length q ≡ n → ((k : ℕ) → k < n → found.finding_at k p ≡ found.finding_at k q) → p ≡ q
same_by n p q l m same = same_lists p q (l ∙ sym m) (λ k x lt.
    sym (ap (λ o. unwrap_or o NotJudged) (slice_get-get_or p k x lt)) ∙ same k (omega (arith, lt, l)) ∙ ap (λ o. unwrap_or o NotJudged) (slice_get-get_or q k x (omega (arith, lt, l, m))))

module _ (h : History) (p q : List Finding) (a b : Grade) (d : FindsDueWalks h p) (e : FindsDueWalks h q) where
  -- seven findings that are the same one by one
  same_seven : found.g0 p ≡ found.g0 q → found.g1a p ≡ found.g1a q → found.g1b p ≡ found.g1b q → found.g1c p ≡ found.g1c q → found.g_single p ≡ found.g_single q → found.g2_item p ≡ found.g2_item q → found.g2 p ≡ found.g2 q → p ≡ q
  same_seven is0 is1 is2 is3 is4 is5 is6 = same_by 7 p q d.seven e.seven at
    where
      at : (k : ℕ) → k < 7 → found.finding_at k p ≡ found.finding_at k q
      at zero lt = is0
      at (suc zero) lt = is1
      at (suc (suc zero)) lt = is2
      at (suc (suc (suc zero))) lt = is3
      at (suc (suc (suc (suc zero)))) lt = is4
      at (suc (suc (suc (suc (suc zero))))) lt = is5
      at (suc (suc (suc (suc (suc (suc zero)))))) lt = is6
      at (suc (suc (suc (suc (suc (suc (suc k))))))) lt = absurd (omega (arith, lt))

  same_g0 : FindsWalk (IsG0 h) (found.g0 p) → FindsWalk (IsG0 h) (found.g0 q) → found.g0 p ≡ found.g0 q
  same_g0 x y = one_found (IsG0 h) _ (one_back_walk h is_write) _ _ x y d.g0 e.g0

  same_g1a : FindsFault h AbortedRead (found.g1a p) → FindsFault h AbortedRead (found.g1a q) → found.g1a p ≡ found.g1a q
  same_g1a x y = one_read h AbortedRead (aborted_agrees h) _ _ x y

  same_g1b : FindsFault h IntermediateRead (found.g1b p) → FindsFault h IntermediateRead (found.g1b q) → found.g1b p ≡ found.g1b q
  same_g1b x y = one_read h IntermediateRead (intermediate_agrees h) _ _ x y

  -- the same findings, and the same level
  abbrev Same : Type 0
  Same = (p ≡ q) × (a ≡ b)

  all_same : JudgesAll h p a → JudgesAll h q b → Same
  all_same j k = (
    same_seven (same_g0 j.0 k.0) (same_g1a j.1 k.1) (same_g1b j.2 k.2)
        (one_found (IsG1c h) _ (one_back_walk h is_flow) _ _ j.3 k.3 d.g1c e.g1c)
        (one_found (IsGSingle h) _ (one_opened_round h is_anti is_flow) _ _ j.4 k.4 d.g_single e.g_single)
        (one_found (IsG2Item h) _ (one_opened_round h is_item_anti is_any) _ _ j.5 k.5 d.g2_item e.g2_item)
        (one_found (IsG2 h) _ (one_opened_round h is_anti is_any) _ _ j.6 k.6 d.g2 e.g2),
    one_grade h a b j.7 k.7,
  )

  reads_same : JudgesReads h p a → JudgesReads h q b → Same
  reads_same j k = (
    same_seven (same_g0 j.0 k.0) (same_g1a j.1 k.1) (same_g1b j.2 k.2) (j.3 ∙ sym k.3) (j.4 ∙ sym k.4) (j.5 ∙ sym k.5) (j.6 ∙ sym k.6),
    one_grade h a b j.7 k.7,
  )

  nothing_same : JudgesNothing p a → JudgesNothing q b → Same
  nothing_same j k = (
    same_seven (j.0 ∙ sym k.0) (j.1 ∙ sym k.1) (j.2 ∙ sym k.2) (j.3 ∙ sym k.3) (j.4 ∙ sym k.4) (j.5 ∙ sym k.5) (j.6 ∙ sym k.6),
    j.7 ∙ sym k.7,
  )

  same_at_read : (read : Bool) → JudgesAtRead read h p a → JudgesAtRead read h q b → Same
  same_at_read true = reads_same
  same_at_read false = nothing_same

  same_found : (s : Serial) → Judges h s p a → Judges h s q b → Same
  same_found (serial.NoFault fault) = same_at_read (is_uncommitted_read fault)
  same_found s = all_same

pub one_judgement : (h : History) (one other : Report) → IsExactJudgement h one → IsExactJudgement h other → one ≡ other
one_judgement h one other x y =
    let serials : one.serial ≡ other.serial = serial_agrees h one other x y in
    let snapshots : one.snapshot ≡ other.snapshot = snapshot_agrees h one other x y in
    let same : (one.phenomena ≡ other.phenomena) × (one.level ≡ other.level)
    = same_found h one.phenomena other.phenomena one.level other.level x.walks y.walks one.serial x.judgement.found
    (subst (λ s. Judges h s other.phenomena other.level) (sym serials) y.judgement.found) in
    λ i. record { serial = serials i; snapshot = snapshots i; phenomena = same.0 i; level = same.1 i }
