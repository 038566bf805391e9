-- A text has one fault, or spells one script.
use Rattle.lab_script.proofs.Common.{◌≡◌, inl, inr, ℕ, zero, suc, ◌+◌, ◌<◌, List, [], ◌∷◌, length, take, Option, Some, None, refl, sym, ap, subst, ◌∙◌, arith, slice_get, lines, cases_lt, take_all, same_Some, slice_get_within, ScriptFaultKind, Script, first_fault, IsFaultyLine, IsFaultOf, LineSpells, LinesSpell, Spells}
use Rattle.lab_statement.specs.declared.fault.ScriptFault.TheVariants as fault
use Rattle.lab_script.proofs.ScriptLines.{lines_once}

-- where lines spell something, each of them does behind those before it
spelled_there : (number : ℕ) (before after : Option Script) (ls : List (List ℕ)) (j i : ℕ) (line : List ℕ) → slice_get ls i ≡ Some line → i < j → LinesSpell number before (take j ls) after
    → (mid next : Option Script) × LinesSpell number before (take i ls) mid × LineSpells (number + i) line mid next
spelled_there number before after [] j i line stands lt spelled = absurd cc
spelled_there number before after (x ∷ ls) zero i line stands lt spelled = absurd (omega arith)
spelled_there number before after (x ∷ ls) (suc j) zero line stands lt (mid, spells, rest) =
    let is : x ≡ line = same_Some x line stands in
    let here : number ≡ number + 0 = omega arith in
    (before, mid, refl, subst (λ n. LineSpells n line before mid) here (subst (λ l. LineSpells number l before mid) is spells))
spelled_there number before after (x ∷ ls) (suc j) (suc i) line stands lt (mid, spells, rest) =
    let found : (one two : Option Script) × LinesSpell (number + 1) mid (take i ls) one × LineSpells (number + 1 + i) line one two
    = spelled_there (number + 1) mid after ls j i line stands (omega (arith, lt)) rest in
    let here : number + 1 + i ≡ number + suc i = omega arith in
    (found.0, found.1, (mid, spells, found.2), subst (λ n. LineSpells n line found.0 found.1) here found.3)

-- no faulty line stands among lines that spell something
none_faulty : (text : List ℕ) (n : ℕ) (kind : ScriptFaultKind) (f : IsFaultyLine text n kind) (j : ℕ) (after : Option Script) → f.index < j → LinesSpell 1 None (take j (lines text)) after → ⊥
none_faulty text n kind f j after lt spelled =
    let found : (mid next : Option Script) × LinesSpell 1 None (take f.index (lines text)) mid × LineSpells (1 + f.index) f.line mid next
    = spelled_there 1 None after (lines text) j f.index f.line f.stands lt spelled in
    let same : found.0 ≡ f.before = lines_once 1 None (take f.index (lines text)) found.2 f.spelled in
    let counted : n ≡ f.index + 1 = f.counted in
    let here : 1 + f.index ≡ n = omega (arith, counted) in
    f.faulty found.1 (subst (λ m. LineSpells m f.line f.before found.1) here (subst (λ b. LineSpells (1 + f.index) f.line b found.1) same found.3))

module _ (text : List ℕ) (n m : ℕ) (kind other : ScriptFaultKind) where
  -- one line is the first that is faulty
  abbrev Same : Type 0
  Same = (n ≡ m) × (kind ≡ other)

  at_one_line : (f : IsFaultyLine text n kind) (g : IsFaultyLine text m other) → f.index ≡ g.index → Same
  at_one_line f g here =
      let count : n ≡ f.index + 1 = f.counted in
      let counted : m ≡ g.index + 1 = g.counted in
      let numbers : n ≡ m = omega (arith, count, counted, here) in
      let line : f.line ≡ g.line = same_Some f.line g.line (sym f.stands ∙ ap (slice_get (lines text)) here ∙ g.stands) in
      let before : f.before ≡ g.before
      = lines_once 1 None (take f.index (lines text)) f.spelled (subst (λ i. LinesSpell 1 None (take i (lines text)) g.before) (sym here) g.spelled) in (
        numbers,
        same_Some kind other (sym f.first ∙ (λ i. first_fault (numbers i) (line i) (before i)) ∙ g.first),
      )

  faulty_once : IsFaultyLine text n kind → IsFaultyLine text m other → Same
  faulty_once f g = elim (cases_lt f.index g.index) [
    | inl less ↦ absurd (none_faulty text n kind f g.index g.before less g.spelled)
    | inr more ↦ elim (cases_lt g.index f.index) [
      | inl before ↦ absurd (none_faulty text m other g f.index f.before before f.spelled)
      | inr le ↦ at_one_line f g (omega (arith, more, le))
    ]
  ]

-- a text whose lines spell something has no faulty line
pub none_at_all : (text : List ℕ) (n : ℕ) (kind : ScriptFaultKind) (after : Option Script) → IsFaultyLine text n kind → LinesSpell 1 None (lines text) after → ⊥
none_at_all text n kind after f spelled =
    none_faulty text n kind f (length (lines text)) after (slice_get_within (lines text) f.index f.line f.stands)
    (subst (λ ls. LinesSpell 1 None ls after) (sym (take_all (length (lines text)) (lines text) (omega arith))) spelled)

pub one_fault : (text : List ℕ) (n m : ℕ) (kind other : ScriptFaultKind) → IsFaultOf text (fault.At n kind) → IsFaultOf text (fault.At m other) → (n ≡ m) × (kind ≡ other)
one_fault text n m kind other (inl f) (inl g) = faulty_once text n m kind other f g
one_fault text n m kind other (inl f) (inr w) = absurd (none_at_all text n kind None f w.spelled)
one_fault text n m kind other (inr w) (inl g) = absurd (none_at_all text m other None g w.spelled)
one_fault text n m kind other (inr w) (inr v) = (w.counted ∙ sym v.counted, w.missing ∙ sym v.missing)

-- a text spells one script at most
pub one_script : (text : List ℕ) (s r : Script) → Spells text s → Spells text r → s ≡ r
one_script text s r spells also = same_Some s r (lines_once 1 None (lines text) spells also)
