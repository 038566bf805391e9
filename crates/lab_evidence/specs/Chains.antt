-- The versions of a row in the order in which they were installed; those that the verdict is about are bold.
--
-- Origin: HTML; the rest is this project's profile.
use Rattle.std.specs.Prelude.{ℕ, ◌+◌, ◌-◌, ◌==◌, nat_le, min, Bool, false, ◌||◌, cond, Option, Some, None, unwrap_or, List, [], ◌∷◌, ◌++◌, length, take, drop, codes}
use Rattle.std.specs.Fmt.{decimal}
use Rattle.lab_table.specs.Row.{Row}
use Rattle.lab_history.specs.History.{History}
use Rattle.lab_history.specs.Version.{ops_of, op_at, viewed, last_write, installers, place_in, state_at}
use Rattle.lab_history.specs.declared.operation.Op.{Op}
use Rattle.lab_history.specs.declared.operation.VersionName.{VersionName}
use Rattle.lab_history.specs.declared.operation.VersionName.TheVariants.{Initial, Of}
use Rattle.lab_drawing.specs.Text.{state_text}
use Rattle.lab_drawing.specs.declared.drawing.Spot.{Spot}
use Rattle.lab_explain.specs.Clauses.{txn_name}
use Rattle.lab_evidence.specs.declared.questions.Did.{Did}
use Rattle.lab_evidence.specs.declared.questions.Did.TheVariants.{Saw, Wrote}
use Rattle.lab_evidence.specs.Markup.{op_text, bold_open, bold_close}
use Rattle.lab_evidence.specs.Scope.{Scope}

-- the place of a version among a row's, counted from 0, which is the initial one
abbrev pub version_place : History → Row → VersionName → Option ℕ
version_place h row Initial = Some 0
version_place h row (Of m j) = place_in (installers h row) m

-- the place of the version that an operation saw
abbrev pub seen_place : History → Row → Option Op → Option ℕ
seen_place h row None = None
seen_place h row (Some op) = version_place h row (viewed op row)

-- the place of the version of a question
abbrev pub asked_place : History → Row → Spot → Did → Option ℕ
asked_place h row spot Saw = seen_place h row (op_at (ops_of h spot.txn) spot.op)
asked_place h row spot Wrote = place_in (installers h row) spot.txn

-- whether this place is asked for
abbrev pub is_place : Option ℕ → ℕ → Bool
is_place None p = false
is_place (Some other) p = other == p

-- whether one of both is
abbrev pub is_either : Option ℕ → Option ℕ → ℕ → Bool
is_either first second p = is_place first p || is_place second p

-- the lesser of a place and one that may be there
abbrev pub lesser_than : ℕ → Option ℕ → ℕ
lesser_than place None = place
lesser_than place (Some other) = min place other

-- the lesser of two places that may be there
abbrev pub lesser : Option ℕ → Option ℕ → ℕ
lesser None second = unwrap_or second 0
lesser (Some place) second = lesser_than place second

-- how many installers stand before those that are shown: none, or all but one of those before a place behind the sixth
abbrev pub start_at : ℕ → ℕ
start_at place = cond (nat_le place 6) 0 (place - 2)

-- who installed a version, by its last write of the row
abbrev pub by_text : History → Scope → ℕ → Option ℕ → List ℕ
by_text h s n None = codes " by " ++ txn_name n
by_text h s n (Some k) = codes " by " ++ op_text h s n k

-- the version at a place that a transaction installed
unfoldable pub installed_text : History → Scope → Row → ℕ → ℕ → List ℕ
installed_text h s row place n = state_text (state_at h row place) ++ by_text h s n (last_write (ops_of h n) row)

-- the same behind an arrow, bold where it is asked for
unfoldable pub next_text : History → Scope → Row → Bool → ℕ → ℕ → List ℕ
next_text h s row bold place n = codes " &rarr; " ++ bold_open bold ++ installed_text h s row place n ++ bold_close bold

-- the versions of these installers, where so many stand before them
abbrev pub versions_text : History → Scope → Row → Option ℕ → Option ℕ → ℕ → List ℕ → List ℕ
versions_text h s row first second before [] = []
versions_text h s row first second before (n ∷ ns) =
    next_text h s row (is_either first second (before + 1)) (before + 1) n ++ versions_text h s row first second (before + 1) ns

-- the initial version, bold where it is asked for
unfoldable pub initial_text : History → Row → Bool → List ℕ
initial_text h row bold = bold_open bold ++ state_text (state_at h row 0) ++ codes " at first" ++ bold_close bold

-- how many versions stand before those that are shown
unfoldable pub left_before : ℕ → List ℕ
left_before count = decimal count ++ codes " more"

-- what stands before the versions that are shown: the initial one, or how many there are
abbrev pub front_text : History → Row → Bool → ℕ → List ℕ
front_text h row bold start = cond (start == 0) (initial_text h row bold) (left_before (start + 1))

-- how many stand behind them
unfoldable pub left_behind : ℕ → List ℕ
left_behind count = codes " &rarr; " ++ decimal count ++ codes " more"

abbrev pub back_text : ℕ → List ℕ
back_text count = cond (count == 0) [] (left_behind count)

-- the installers that are shown behind so many: seven
abbrev pub shown_installers : ℕ → List ℕ → List ℕ
shown_installers start ns = take (min (length (drop start ns)) 7) (drop start ns)

-- the versions of a row behind so many installers
unfoldable pub chain_from : History → Scope → Row → Option ℕ → Option ℕ → ℕ → List ℕ
chain_from h s row first second start =
    front_text h row (is_either first second 0) start
    ++ versions_text h s row first second start (shown_installers start (installers h row))
    ++ back_text (length (installers h row) - start - 7)

-- the versions of a row, those at two places bold
abbrev pub chain_text : History → Scope → Row → Option ℕ → Option ℕ → List ℕ
chain_text h s row first second = chain_from h s row first second (min (start_at (lesser first second)) (length (installers h row)))
