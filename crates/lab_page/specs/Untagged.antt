-- A page without its tags, for laws: which texts it shows.
--
-- Origin: HTML.
use Rattle.std.specs.Prelude.{◌≡◌, ℕ, ◌==◌, Bool, true, false, not, ◌&&◌, cond, List, [], ◌∷◌, ◌++◌, length, codes}
use Rattle.std.specs.Str.{bytes_eq}
use Rattle.lab_drawing.specs.Text.{escaped}

-- whether what stands behind a byte is inside of a tag, by whether the byte is
abbrev pub is_inside : Bool → ℕ → Bool
is_inside true b = not (b == 62)
is_inside false b = b == 60

-- what is left of a byte without tags
abbrev pub kept : Bool → ℕ → List ℕ
kept true b = []
kept false b = cond (b == 60) [] (b ∷ [])

-- a text without its tags, by whether it begins inside of one: a tag is what stands from `<` to the next `>`
abbrev pub untagged : Bool → List ℕ → List ℕ
untagged inside [] = []
untagged inside (b ∷ bs) = kept inside b ++ untagged (is_inside inside b) bs

-- a text holds another, byte for byte
abbrev pub Holds : List ℕ → List ℕ → Type 0
Holds whole part = (before behind : List ℕ) × (whole ≡ before ++ (part ++ behind))

-- a page shows a text: it stands there, escaped, once the tags are taken away
abbrev pub Shows : List ℕ → List ℕ → Type 0
Shows page text = Holds (untagged false page) (escaped text)

-- the byte of a name
abbrev pub named_byte : List ℕ → List ℕ
named_byte name =
    cond (bytes_eq name (codes "lt")) (60 ∷ []) (cond (bytes_eq name (codes "gt")) (62 ∷ []) (cond (bytes_eq name (codes "amp")) (38 ∷ []) (cond (bytes_eq name (codes "quot")) (34 ∷ []) [])))

-- whether what stands behind a byte is inside of a name, by whether the byte is: a name stands from `&` to the next `;`
abbrev pub in_name : Bool → ℕ → Bool
in_name true b = not (b == 59)
in_name false b = b == 38

-- what of a name came before, behind a byte
abbrev pub name_so_far : Bool → List ℕ → ℕ → List ℕ
name_so_far true name b = cond (b == 59) [] (name ++ b ∷ [])
name_so_far false name b = []

-- what is read at a byte
abbrev pub read_at : Bool → List ℕ → ℕ → List ℕ
read_at true name b = cond (b == 59) (named_byte name) []
read_at false name b = cond (b == 38) [] (b ∷ [])

-- a text with its names of bytes read back, by whether it begins inside of a name, and what of that came before
abbrev pub read_from : Bool → List ℕ → List ℕ → List ℕ
read_from inside name [] = []
read_from inside name (b ∷ bs) = read_at inside name b ++ read_from (in_name inside b) (name_so_far inside name b) bs

abbrev pub read_back : List ℕ → List ℕ
read_back text = read_from false [] text

-- whether a byte doesn't end a name that is none
abbrev pub is_named : Bool → List ℕ → ℕ → Bool
is_named true name b = cond (b == 59) (not (length (named_byte name) == 0)) true
is_named false name b = true

-- whether each `&` of a text begins the name of a byte
abbrev pub named_from : Bool → List ℕ → List ℕ → Bool
named_from inside name [] = not inside
named_from inside name (b ∷ bs) = is_named inside name b && named_from (in_name inside b) (name_so_far inside name b) bs

abbrev pub names_bytes : List ℕ → Bool
names_bytes text = named_from false [] text
