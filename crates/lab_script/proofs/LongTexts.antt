-- What stands behind the first 8,388,609 bytes of a text doesn't matter to what it spells: a script has at most 2,000 lines,
-- each of at most 4,000 bytes and what ends it.
use Rattle.lab_script.proofs.Common.{◌≡◌, ℕ, zero, suc, ◌+◌, ◌-◌, ◌<◌, ◌≤◌, ◌==◌, min, Bool, true, false, cond, List, [], ◌∷◌, ◌++◌, length, take, get_or, refl, sym, ap, ◌∙◌, inl, inr, ⊎_elim, arith, length-append, ◌*◌, drop, Option, Some, None, subst, lines, strip_carriage_return, cases_Bool, cases_lt, lt-ltb, true≢false, length-take, append-nil, take_all, take_at, take-append-le, take-append-drop, length-drop, eqb-suc-zero, nat_lt, slice_get, slice_get_within, ScriptFault, ScriptFaultKind, Script, LinesSpell, Spells, is_over, IsFaultyLine, IsFaultOf, slice_get-middle, same_Some, first_fault, TellsOfTokens, tokens, code_of, LineSpells}
use Rattle.lab_script.proofs.TextLines.{lines_behind, lines_are}
use Rattle.std.proofs.Math.Bool.{or-true}
use Rattle.lab_script.proofs.ScriptLines.{fit_of, lines_front}
use Rattle.lab_statement.specs.declared.fault.ScriptFault.TheVariants as fault

-- the most bytes that lines come from: each may have lost a carriage return and its newline
abbrev pub weight : List (List ℕ) → ℕ
weight [] = 0
weight (line ∷ ls) = length line + 2 + weight ls

-- a line is at most one byte shorter than what stands before its newline
stripped : (l : List ℕ) → length l ≤ length (strip_carriage_return l) + 1
stripped l =
    elim (get_or l (length l - 1) 0 == 13) as (λ (v : Bool). length l ≤ length (cond v (take (length l - 1) l) l) + 1) [
      | true ↦ let len : length (take (length l - 1) l) ≡ min (length l - 1) (length l) = length-take (length l - 1) l in omega arith
      | false ↦ omega arith
    ]

-- the lines that newlines end, and what stands behind the last newline
record IsCutUp (line text : List ℕ) : Type 0 where
  ended : List (List ℕ)
  tail : List ℕ
  lines_are : (more : List ℕ) → lines_behind line (text ++ more) ≡ ended ++ lines_behind tail more
  sized : length line + length text ≤ weight ended + length tail

cut_up : (line text : List ℕ) → IsCutUp line text
cut_up line [] = record { ended = []; tail = line; lines_are = λ more. refl; sized = omega arith }
cut_up line (b ∷ bytes) = elim (cases_Bool (b == 10)) [
  | inl is ↦ let up = cut_up [] bytes in record {
    ended = strip_carriage_return line ∷ up.ended;
    tail = up.tail;
    lines_are = λ more. ap (λ (v : Bool). cond v (strip_carriage_return line ∷ lines_behind [] (bytes ++ more)) (lines_behind (line ++ b ∷ []) (bytes ++ more))) is
        ∙ ap (λ (ls : List (List ℕ)). strip_carriage_return line ∷ ls) (up.lines_are more);
    sized = omega (arith, stripped line, up.sized);
  }
  | inr isnt ↦ let up = cut_up (line ++ b ∷ []) bytes in record {
    ended = up.ended;
    tail = up.tail;
    lines_are = λ more. ap (λ (v : Bool). cond v (strip_carriage_return line ∷ lines_behind [] (bytes ++ more)) (lines_behind (line ++ b ∷ []) (bytes ++ more))) isnt ∙ up.lines_are more;
    sized = omega (arith, length-append line (b ∷ []), up.sized);
  }
]

-- bytes without a newline are one line, unless there are none
alone : (tail : List ℕ) → 0 < length tail → lines_behind tail [] ≡ tail ∷ []
alone [] some = absurd (omega arith)
alone (b ∷ bytes) some = ap (λ (v : Bool). cond v [] ((b ∷ bytes) ∷ [])) (eqb-suc-zero (length bytes))

-- the line that bytes without a newline begin, those behind it, and how long it is
first_of : (tail more : List ℕ) → 0 < length tail + length more → (line : List ℕ) × (others : List (List ℕ)) × (lines_behind tail more ≡ line ∷ others) × (length tail ≤ length line + 1)
first_of tail [] some = (tail, [], alone tail (omega arith), omega arith)
first_of tail (b ∷ more) some = elim (cases_Bool (b == 10)) [
  | inl is ↦ (strip_carriage_return tail, lines_behind [] more, rw is refl, stripped tail)
  | inr isnt ↦
      let len = length-append tail (b ∷ []) in
      let first = first_of (tail ++ b ∷ []) more (omega (arith, len)) in
      (first.0, first.1, rw isnt first.2, omega (arith, len, first.3))
]

-- lines that spell something are few and short
few_short : (number : ℕ) (before after : Option Script) (ls : List (List ℕ)) → LinesSpell number before ls after → number ≤ 2001 → (number + length ls ≤ 2001) × (weight ls ≤ 4002 * length ls)
few_short number before after [] spells le = (omega arith, omega arith)
few_short number before after (line ∷ ls) spells le =
    let fit = fit_of spells.1 in
    let rest = few_short (number + 1) spells.0 after ls spells.2 (omega (arith, fit.lines)) in
    (omega (arith, rest.0), omega (arith, rest.1, fit.bytes))

light : (ls : List (List ℕ)) (after : Option Script) → LinesSpell 1 None ls after → weight ls ≤ 8004000
light ls after spells = let small = few_short 1 None after ls spells (omega arith) in omega (arith, small.0, small.1)

module _ {text : List ℕ} (up : IsCutUp [] text) where
  lines_with : (more : List ℕ) → lines (text ++ more) ≡ up.ended ++ lines_behind up.tail more
  lines_with more = lines_are (text ++ more) ∙ up.lines_are more

  lines_here : lines text ≡ up.ended ++ lines_behind up.tail []
  lines_here = ap lines (sym (append-nil text)) ∙ lines_with []

  -- a text whose lines spell something is short
  spelled_size : (after : Option Script) → LinesSpell 1 None (lines text) after → length text ≤ 8008000
  spelled_size after spells =
      let parts = lines_front 1 None up.ended (lines_behind up.tail []) after (subst (λ (ls : List (List ℕ)). LinesSpell 1 None ls after) lines_here spells) in
      let small = light up.ended parts.0 parts.1 in
      let size = up.sized in
      ⊎_elim
      (λ (some : 0 < length up.tail).
      let last = subst (λ (ls : List (List ℕ)). LinesSpell (1 + length up.ended) parts.0 ls after) (alone up.tail some) parts.2 in
      let fit = fit_of last.1 in
      omega (arith, fit.bytes))
      (λ (none : length up.tail ≤ 0). omega arith)
      (cases_lt 0 (length up.tail))

-- an element of the front of a list
got : {A : Type 0} (xs ys zs : List A) (i : ℕ) → i < length xs → slice_get (xs ++ ys) i ≡ slice_get (xs ++ zs) i
got [] ys zs i lt = absurd (omega arith)
got (x ∷ xs) ys zs zero lt = refl
got (x ∷ xs) ys zs (suc i) lt = got xs ys zs i (omega arith)

-- a line that is too long is over its limit
over : (number : ℕ) (line : List ℕ) → 4000 < length line → is_over number line ≡ true
over number line long = rw (lt-ltb 4000 (length line) long) (or-true (nat_lt 2000 number))

-- text that is longer than a script is, and more behind it
module _ (text more : List ℕ) (up : IsCutUp [] text) (long : 8388608 < length text) (some : 0 < length more) where
  same_front : (i : ℕ) → i ≤ length up.ended → take i (lines text) ≡ take i (lines (text ++ more))
  same_front i le =
      ap (take i) (lines_here up) ∙ take-append-le i up.ended (lines_behind up.tail []) le ∙ sym (take-append-le i up.ended (lines_behind up.tail more) le) ∙ sym (ap (take i) (lines_with up more))

  same_line : (i : ℕ) → i < length up.ended → slice_get (lines text) i ≡ slice_get (lines (text ++ more)) i
  same_line i lt =
      ap (λ (ls : List (List ℕ)). slice_get ls i) (lines_here up) ∙ got up.ended (lines_behind up.tail []) (lines_behind up.tail more) i lt
      ∙ sym (ap (λ (ls : List (List ℕ)). slice_get ls i) (lines_with up more))

  module _ {number : ℕ} {kind : ScriptFaultKind} (line : IsFaultyLine text number kind) where
    -- where this line stands in all of the text, with the same fault, it is faulty there
    moved : (there : List ℕ) → line.index ≤ length up.ended → slice_get (lines (text ++ more)) line.index ≡ Some there → ((after : Option Script) → LineSpells number there line.before after → ⊥)
        → first_fault number there line.before ≡ Some kind → (is_over number there ≡ false → TellsOfTokens kind (tokens (code_of there)) line.before) → IsFaultOf (text ++ more) (fault.At number kind)
    moved there le stands faulty first tells = inl (record {
      index = line.index;
      counted = line.counted;
      line = there;
      stands = stands;
      before = line.before;
      spelled = subst (λ (ls : List (List ℕ)). LinesSpell 1 None ls line.before) (same_front line.index le) line.spelled;
      faulty = faulty;
      first = first;
      tells = tells;
    })

    -- a line that ends in the text
    early : line.index < length up.ended → IsFaultOf (text ++ more) (fault.At number kind)
    early lt = moved line.line (omega (arith, lt)) (sym (same_line line.index lt) ∙ line.stands) line.faulty line.first line.tells

    -- the line that the text's end cuts, which is too long
    module _ (last : length up.ended ≤ line.index) where
      at_end : (line.index ≡ length up.ended) × (0 < length up.tail)
      at_end = at up.tail (ap length (lines_here up))
        where
          inside : line.index < length (lines text)
          inside = slice_get_within (lines text) line.index line.line line.stands

          at : (tail : List ℕ) → length (lines text) ≡ length (up.ended ++ lines_behind tail []) → (line.index ≡ length up.ended) × (0 < length tail)
          at [] size = absurd (omega (arith, inside, size ∙ ap length (append-nil up.ended), last))
          at (b ∷ bytes) size = (omega (arith, inside, size ∙ ap (λ ls. length (up.ended ++ ls)) (alone (b ∷ bytes) (omega arith)) ∙ length-append up.ended ((b ∷ bytes) ∷ []), last), omega arith)

      wide : 4001 < length up.tail
      wide =
          let spelled : LinesSpell 1 None up.ended line.before =
          subst (λ (ls : List (List ℕ)). LinesSpell 1 None ls line.before) (ap (take line.index) (lines_here up) ∙ take_at up.ended (lines_behind up.tail []) line.index (sym at_end.0)) line.spelled in
          omega (arith, light up.ended line.before spelled, up.sized, long)

      -- whatever stands behind the text, a long line stands there
      stands_there : (others : List ℕ) → (there : List ℕ) × (slice_get (lines (text ++ others)) line.index ≡ Some there) × (4000 < length there)
      stands_there others =
          let first = first_of up.tail others (omega (arith, at_end.1)) in (
            first.0,
            ap (λ (ls : List (List ℕ)). slice_get ls line.index) (lines_with up others ∙ ap (λ (ls : List (List ℕ)). up.ended ++ ls) first.2)
                ∙ ap (slice_get (up.ended ++ first.0 ∷ first.1)) at_end.0 ∙ slice_get-middle up.ended first.0 first.1,
            omega (arith, first.3, wide),
          )

      late : IsFaultOf (text ++ more) (fault.At number kind)
      late =
          let here = stands_there [] in
          let there = stands_there more in
          let same : here.0 ≡ line.line = same_Some here.0 line.line (sym here.1 ∙ ap (λ (bytes : List ℕ). slice_get (lines bytes) line.index) (append-nil text) ∙ line.stands) in
          let is_here : is_over number line.line ≡ true = over number line.line (subst (λ (l : List ℕ). 4000 < length l) same here.2) in
          let is_there : is_over number there.0 ≡ true = over number there.0 there.2 in
          moved there.0 (omega (arith, at_end.0)) there.1 (λ after spells. omega (arith, (fit_of spells).bytes, there.2)) (rw is_there (sym (rw is_here refl) ∙ line.first))
          (λ within. absurd (true≢false (sym is_there ∙ within)))

  too_long : (after : Option Script) → LinesSpell 1 None (lines text) after → ⊥
  too_long after spells = let size = spelled_size up after spells in omega arith

  fault_stays : (f : ScriptFault) → IsFaultOf text f → IsFaultOf (text ++ more) f
  fault_stays fault.NoMemory is = tt
  fault_stays (fault.At number kind) (inl line) = ⊎_elim (early line) (late line) (cases_lt line.index (length up.ended))
  fault_stays (fault.At number kind) (inr without) = absurd (too_long None without.spelled)

-- a text that spells a script is short
pub script_short : (text : List ℕ) (s : Script) → Spells text s → length text ≤ 8008000
script_short text s spells = spelled_size (cut_up [] text) (Some s) spells

-- the first bytes of a text, where they are more than a script has, spell a script only where they are all of it
pub first_spell : (text : List ℕ) (n : ℕ) (s : Script) → 8388608 < n → Spells (take n text) s → Spells text s
first_spell text n s many spells =
    let short = script_short (take n text) s spells in
    let size : length (take n text) ≡ min n (length text) = length-take n text in
    subst (λ (bytes : List ℕ). Spells bytes s) (take_all n text (omega arith)) spells

-- and their fault is the text's
pub fault_spelled : (text : List ℕ) (n : ℕ) (f : ScriptFault) → 8388608 < n → IsFaultOf (take n text) f → IsFaultOf text f
fault_spelled text n f many is =
    ⊎_elim
    (λ (longer : n < length text).
    let front : length (take n text) ≡ min n (length text) = length-take n text in
    let back : length (drop n text) ≡ length text - n = length-drop n text in
    subst (λ (bytes : List ℕ). IsFaultOf bytes f) (take-append-drop n text) (fault_stays (take n text) (drop n text) (cut_up [] (take n text)) (omega arith) (omega arith) f is))
    (λ (all : length text ≤ n). subst (λ (bytes : List ℕ). IsFaultOf bytes f) (take_all n text all) is)
    (cases_lt n (length text))
