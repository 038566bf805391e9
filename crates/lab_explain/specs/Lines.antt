-- How sentences are broken into lines.
use Rattle.std.specs.Prelude.{ℕ, ◌+◌, ◌-◌, ◌==◌, nat_le, Bool, ◌&&◌, not, cond, Option, Some, None, List, [], ◌∷◌, ◌++◌, length, count_by, codes}
use Rattle.std.specs.List.{prefix_len}
use Rattle.std.specs.Fmt.{decimal}

-- how many bytes stand before the next blank
abbrev pub blank_after : List ℕ → ℕ
blank_after text = prefix_len (λ b. not (b == 32)) text

-- how many bytes stand together at the front of a text: those before the next blank, and all from a square bracket on
abbrev pub word_length : List ℕ → ℕ
word_length [] = 0
word_length (b ∷ bs) = cond (b == 91) (length (b ∷ bs)) (blank_after (b ∷ bs))

-- whether a byte that stands behind so many on its line is a blank, and the word behind it would end after the 100th
abbrev pub breaks : ℕ → ℕ → List ℕ → Bool
breaks column b rest = (b == 32) && nat_le (100 - column) (word_length rest)

-- a text where so many bytes stand before it on its line: a line break and four blanks stand for each blank behind which a word would not fit
abbrev pub wrapped : ℕ → List ℕ → List ℕ
wrapped column [] = []
wrapped column (b ∷ bs) = cond (breaks column b bs) (codes "\n    " ++ wrapped 4 bs) (b ∷ wrapped (column + 1) bs)

-- a sentence in lines of its own, with what stands before it on the first
unfoldable pub sentence : List ℕ → List ℕ → List ℕ
sentence lead text = lead ++ wrapped (length lead) text ++ codes "\n"

-- a sentence that begins at the line's start
abbrev pub paragraph : List ℕ → List ℕ
paragraph text = sentence [] text

-- a sentence that is indented
abbrev pub step : List ℕ → List ℕ
step text = sentence (codes "  ") text

-- how many lines end in a text
abbrev pub lines : List ℕ → ℕ
lines text = count_by (λ b. b == 10) text

-- the first lines of a text
abbrev pub first_lines : ℕ → List ℕ → List ℕ
first_lines n [] = []
first_lines n (b ∷ bs) = cond (n == 0) [] (b ∷ first_lines (cond (b == 10) (n - 1) n) bs)

-- how many lines are left out
unfoldable pub left_out : ℕ → List ℕ
left_out n = codes "  .. and " ++ decimal n ++ codes " lines more\n"

-- texts behind each other
abbrev pub joined : List (List ℕ) → List ℕ
joined [] = []
joined (s ∷ ss) = s ++ joined ss

-- what stands of a sentence for which there is no room: nothing, but the first lines of one that has more lines than all of them may have
abbrev pub begun : ℕ → ℕ → List ℕ → List ℕ
begun most room s = cond (nat_le (lines s) most) [] (first_lines room s)

-- what stands of a sentence where there is room for so many lines, or where one before it had no room
abbrev pub placed : ℕ → Option ℕ → List ℕ → List ℕ
placed most None s = []
placed most (Some room) s = cond (nat_le (lines s) room) s (begun most room s)

-- the room behind it; none where it had no room
abbrev pub room_behind : Option ℕ → List ℕ → Option ℕ
room_behind None s = None
room_behind (Some room) s = cond (nat_le (lines s) room) (Some (room - lines s)) None

-- what stands of some sentences where there is room for so many lines: the first ones that fit
abbrev pub standing : ℕ → Option ℕ → List (List ℕ) → List ℕ
standing most room [] = []
standing most room (s ∷ ss) = placed most room s ++ standing most (room_behind room s) ss

-- what stands of some sentences in so many lines
abbrev pub front : ℕ → List (List ℕ) → List ℕ
front most sentences = standing most (Some most) sentences

-- some of so many lines, and how many lines are left out
unfoldable pub with_left_out : ℕ → List ℕ → List ℕ
with_left_out count text = text ++ left_out (count - lines text)

-- some sentences for which there are too few lines: the first ones that fit behind each other, and in the last line how many lines are left out
abbrev pub cut : ℕ → List (List ℕ) → List ℕ
cut most sentences = with_left_out (lines (joined sentences)) (front (most - 1) sentences)

-- some sentences in so many lines at most
abbrev pub capped : ℕ → List (List ℕ) → List ℕ
capped most sentences = cond (nat_le (lines (joined sentences)) most) (joined sentences) (cut most sentences)
