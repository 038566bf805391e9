-- Which characters of a text a terminal shows as they are, and the text without the others.
use Rattle.std.specs.Prelude.{ℕ, Bool, not, ◌&&◌, ◌||◌, List, if◌then◌else◌}
use Rattle.std.specs.Char.{is_control, encode_utf8}
use Rattle.std.specs.Int.{is_in_range}
use Rattle.std.specs.List.{flat_map}
use Rattle.std.specs.Str.{chars}

-- whether a character changes the direction or the place of others: marks of zero width, of direction, and of bytes' order
abbrev pub moves_others : ℕ → Bool
moves_others c =
    is_in_range 0x200B 0x200F c || is_in_range 0x2028 0x202E c || is_in_range 0x2060 0x206F c || is_in_range 0xFEFF 0xFEFF c

-- whether a terminal shows a character as it is
abbrev pub is_shown : ℕ → Bool
is_shown c = not (is_control c) && not (moves_others c)

-- the bytes of a character, or of `instead` where a terminal doesn't show the character as it is
abbrev pub shown_bytes : ℕ → ℕ → List ℕ
shown_bytes instead c = encode_utf8 (if is_shown c then c else instead)

-- the text with `instead` in place of each character that a terminal doesn't show as it is
abbrev pub shown_text : ℕ → List ℕ → List ℕ
shown_text instead text = flat_map (shown_bytes instead) (chars text)
