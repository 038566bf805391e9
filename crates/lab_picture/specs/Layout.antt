-- Positions in pixels. Three columns side by side make a band, and bands are below one another. All boxes of a
-- picture have the same size.
use Rattle.std.specs.Prelude.{ℕ, ◌+◌, ◌-◌, ◌*◌, ◌/◌, ◌%◌, ◌==◌, nat_le, nat_lt, Bool, ◌&&◌, cond}
use Rattle.lab_picture.specs.declared.layout.Corner.{Corner}
use Rattle.lab_picture.specs.declared.layout.Frame.{Frame}

-- the left side of a column; a box is 196 wide
abbrev pub left : ℕ → ℕ
left column = 26 + column % 3 * 308

-- how wide a picture of so many columns is: two have room, or three
abbrev pub width : ℕ → ℕ
width columns = cond (nat_lt 2 columns) 864 556

-- how high a box is: it has four lines, and more where the fullest one needs more
abbrev pub box_height : Frame → ℕ
box_height f = 60 + 13 * f.extra

-- how far a box is below the one above it, from upper side to upper side
abbrev pub distance : Frame → ℕ
distance f = 70 + 13 * f.extra

-- how high the boxes of the longest column are, each with what is left free below it
abbrev pub depth : Frame → ℕ
depth f = distance f * f.most

-- how high a band is
abbrev pub pitch : Frame → ℕ
pitch f = 30 + depth f + cond f.round 30 0

-- the ground line of what stands above a column
abbrev pub top : Frame → ℕ → ℕ
top f column = f.head + column / 3 * pitch f

-- the upper side of an operation's box; operations count from 1
abbrev pub upper : Frame → ℕ → ℕ → ℕ
upper f column op = top f column + 10 + distance f * (op - 1)

-- how high a picture of so many columns is
abbrev pub height : Frame → ℕ → ℕ
height f columns = top f (columns + 2)

-- where an arrow leaves a box: its right side
abbrev pub exit_of : Frame → ℕ → ℕ → Corner
exit_of f column op = record { x = left column + 196; y = upper f column op + 18 }

-- where an arrow meets a box: its left side
abbrev pub entry_of : Frame → ℕ → ℕ → Corner
entry_of f column op = record { x = left column; y = upper f column op + 42 }

-- whether a column is the next one of the same band
abbrev pub is_next : ℕ → ℕ → Bool
is_next from to = (from + 1 == to) && (from / 3 == to / 3)

-- whether an arrow leads to a later band
abbrev pub is_down : ℕ → ℕ → Bool
is_down from to = nat_lt (from / 3) (to / 3)

-- where an arrow between other columns passes, below the boxes of its first column's band
abbrev pub lane : Frame → ℕ → ℕ → ℕ
lane f from to = top f from + depth f + cond (is_down from to) 18 36

-- how far before its second end such an arrow turns up or down
abbrev pub aside : ℕ → ℕ → ℕ
aside from to = cond (nat_le to from) 18 10
