-- The lines of a text, byte by byte: they are those of the definition, and those that bstr gives.
use Rattle.lab_script.proofs.Common.{◌≡◌, ℕ, ◌+◌, ◌-◌, ◌<◌, ◌≤◌, Bool, true, false, cond, List, [], ◌∷◌, ◌++◌, length, take, drop, map, refl, sym, ap, ◌∙◌, inl, inr, arith, suc, zero, length-append, append_assoc, length-drop, ◌==◌, nat_lt, ◌&&◌, slice_index, slice_split, onto_first, lines, lines_of_parts, strip_carriage_return, cases_Bool, lt-ltb, eqb-suc-zero, append-nil, take_at}
use Rattle.std.proofs.Math.Seq.{get_or-append_seam}
use Rattle.bstr.{specs.Text.{line_len, lines_of, no_cr, without_terminator}, proofs.lemmas.LineLemmas.{line_len-bounds, lines-step, lines-nil}}

-- the lines of bytes, of which the first begins with these before them
abbrev pub lines_behind : List ℕ → List ℕ → List (List ℕ)
lines_behind line [] = cond (length line == 0) [] (line ∷ [])
lines_behind line (b ∷ bytes) = cond (b == 10) (strip_carriage_return line ∷ lines_behind [] bytes) (lines_behind (line ++ b ∷ []) bytes)

-- the parts between newlines
abbrev parts_of : List ℕ → List (List ℕ)
parts_of bytes = slice_split (λ b. b == 10) bytes

-- there is always a part
some_part : (bytes : List ℕ) → (part : List ℕ) × (parts : List (List ℕ)) × (parts_of bytes ≡ part ∷ parts)
some_part [] = ([], [], refl)
some_part (b ∷ bytes) =
    let more = some_part bytes in
    elim (b == 10) as (λ v. (part : List ℕ) × (parts : List (List ℕ)) × (cond v ([] ∷ parts_of bytes) (onto_first b (parts_of bytes)) ≡ part ∷ parts)) [
      | true ↦ ([], parts_of bytes, refl)
      | false ↦ (b ∷ more.0, more.1, ap (onto_first b) more.2)
    ]

-- parts, with these bytes before the first
abbrev onto : List ℕ → List (List ℕ) → List (List ℕ)
onto line [] = []
onto line (part ∷ parts) = (line ++ part) ∷ parts

onto_nothing : (bytes : List ℕ) → onto [] (parts_of bytes) ≡ parts_of bytes
onto_nothing bytes = let some = some_part bytes in ap (onto []) some.2 ∙ sym some.2

parts_behind : (line bytes : List ℕ) → lines_of_parts (onto line (parts_of bytes)) ≡ lines_behind line bytes
parts_behind line [] = rw (append-nil line) refl
parts_behind line (b ∷ bytes) =
    let some = some_part bytes in
    elim (b == 10) as (λ v. lines_of_parts (onto line (cond v ([] ∷ parts_of bytes) (onto_first b (parts_of bytes)))) ≡ cond v (strip_carriage_return line ∷ lines_behind [] bytes) (lines_behind (line ++ b ∷ []) bytes)) [
      | true ↦ ap (λ (l : List ℕ). lines_of_parts (l ∷ parts_of bytes)) (append-nil line) ∙ ap (λ (ps : List (List ℕ)). lines_of_parts (line ∷ ps)) some.2
          ∙ ap (λ (ps : List (List ℕ)). strip_carriage_return line ∷ lines_of_parts ps) (sym some.2 ∙ sym (onto_nothing bytes))
          ∙ ap (λ (ls : List (List ℕ)). strip_carriage_return line ∷ ls) (parts_behind [] bytes)
      | false ↦ ap (λ (ps : List (List ℕ)). lines_of_parts (onto line (onto_first b ps))) some.2
          ∙ ap (λ (l : List ℕ). lines_of_parts (l ∷ some.1)) (sym (append_assoc line (b ∷ []) some.0))
          ∙ ap (λ (ps : List (List ℕ)). lines_of_parts (onto (line ++ b ∷ []) ps)) (sym some.2) ∙ parts_behind (line ++ b ∷ []) bytes
    ]

pub lines_are : (bytes : List ℕ) → lines bytes ≡ lines_behind [] bytes
lines_are bytes = ap lines_of_parts (sym (onto_nothing bytes)) ∙ parts_behind [] bytes

-- one carriage return at the end is lost, of no bytes none
no_return : (front : List ℕ) → no_cr front ≡ strip_carriage_return front
no_return [] = refl
no_return (b ∷ bytes) =
    ap (λ (v : Bool). cond (v && (slice_index (b ∷ bytes) (length (b ∷ bytes) - 1) == 13)) (take (length (b ∷ bytes) - 1) (b ∷ bytes)) (b ∷ bytes)) (lt-ltb 0 (length (b ∷ bytes)) (omega arith))

-- a line that a newline ends loses it, and a carriage return before it
shown : (line : List ℕ) (b : ℕ) → without_terminator (line ++ b ∷ []) ≡ cond (b == 10) (strip_carriage_return line) (line ++ b ∷ [])
shown line b =
    let all = line ++ b ∷ [] in
    let len : length all ≡ length line + 1 = length-append line (b ∷ []) in
    let last : length all - 1 ≡ length line = omega arith in
    ap (λ (k : ℕ). cond (nat_lt 0 (length all) && slice_index all k == 10) (no_cr (take k all)) all) last
    ∙ ap (λ (v : Bool). cond (v && slice_index all (length line) == 10) (no_cr (take (length line) all)) all) (lt-ltb 0 (length all) (omega arith))
    ∙ ap (λ (c : ℕ). cond (c == 10) (no_cr (take (length line) all)) all) (get_or-append_seam line b [] 0)
    ∙ ap (λ (l : List ℕ). cond (b == 10) l all) (ap no_cr (take_at line (b ∷ []) (length line) refl) ∙ no_return line)

-- the first line as bstr cuts it, and those behind it
first_cut : (line bytes : List ℕ) → without_terminator line ≡ line → 0 < length line + length bytes
    → lines_behind line bytes ≡ without_terminator (line ++ take (line_len bytes) bytes) ∷ lines_behind [] (drop (line_len bytes) bytes)
unfolding line_len
first_cut [] [] kept some = absurd (omega arith)
first_cut (x ∷ line) [] kept some = rw (eqb-suc-zero (length line)) (ap (λ (l : List ℕ). l ∷ []) (sym kept ∙ ap without_terminator (sym (append-nil (x ∷ line)))))
first_cut line (b ∷ bytes) kept some =
    elim (cases_Bool (b == 10)) [
      | inl is ↦ rw is (ap (λ (l : List ℕ). l ∷ lines_behind [] bytes) (sym (shown line b ∙ ap (λ (v : Bool). cond v (strip_carriage_return line) (line ++ b ∷ [])) is)))
      | inr isnt ↦
          rw isnt (first_cut (line ++ b ∷ []) bytes (shown line b ∙ ap (λ (v : Bool). cond v (strip_carriage_return line) (line ++ b ∷ [])) isnt) (omega (arith, length-append line (b ∷ [])))
          ∙ ap (λ (l : List ℕ). without_terminator l ∷ lines_behind [] (drop (line_len bytes) bytes)) (append_assoc line (b ∷ []) (take (line_len bytes) bytes)))
    ]

same : (fuel : ℕ) (bytes : List ℕ) → length bytes ≤ fuel → map without_terminator (lines_of bytes) ≡ lines_behind [] bytes
same fuel [] within = ap (map without_terminator) lines-nil
same zero (b ∷ bytes) within = absurd (omega arith)
same (suc fuel) (b ∷ bytes) within =
    let line = b ∷ bytes in
    let bounds = line_len-bounds line (omega arith) in
    let left = length-drop (line_len line) line in
    ap (map without_terminator) (lines-step line (omega arith))
    ∙ ap (λ (ls : List (List ℕ)). without_terminator (take (line_len line) line) ∷ ls) (same fuel (drop (line_len line) line) (omega arith)) ∙ sym (first_cut [] line refl (omega arith))

-- the lines that bstr gives are those of the definition
pub text_lines : (bytes : List ℕ) → map without_terminator (lines_of bytes) ≡ lines bytes
text_lines bytes = same (length bytes) bytes (omega arith) ∙ sym (lines_are bytes)
