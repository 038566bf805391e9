-- When the level, the lines and the ends of a summary agree: each run has such a summary.
--
-- These are necessary conditions: a coherent summary needn't be that of a run.
use Rattle.std.specs.Prelude.{ℕ, nat_le, Bool, true, false, ◌&&◌, ◌||◌, not, Option, Some, None}
use Rattle.std.specs.List.{list_all}
use Rattle.lab_table.specs.Table.{Table}
use Rattle.lab_chain.specs.Chain.{is_clear, is_found}
use Rattle.lab_chain.specs.Levels.{level_rank}
use Rattle.lab_chain.specs.declared.level.Level.{Level}
use Rattle.lab_chain.specs.declared.level.Level.TheVariants.{Pl3, Pl299, Pl2, Pl1, NotJudged, BelowPl1, Unsound}
use Rattle.lab_chain.specs.declared.line.Line.{Line}
use Rattle.lab_chain.specs.declared.line.Line.TheVariants.{Clear, Unjudged, Found}
use Rattle.lab_chain.specs.declared.summary.Ends.{Ends}
use Rattle.lab_chain.specs.declared.summary.Lines.{Lines}
use Rattle.lab_chain.specs.declared.summary.Summary.{Summary}

-- ---- lines and levels

-- whether a level isn't better than another
abbrev pub at_best : Level → Level → Bool
at_best best level = nat_le (level_rank best) (level_rank level)

-- whether a run of this level can have this line, by the best levels with an unjudged and with a found one
abbrev pub allows : Level → Level → Level → Line → Bool
allows unjudged found level Clear = true
allows unjudged found level (Unjudged part) = at_best unjudged level
allows unjudged found level (Found part reason) = at_best found level

-- whether a run of this level can have each of these lines
abbrev pub all_allow : Level → Lines → Bool
all_allow level lines =
    allows NotJudged Pl299 level lines.serial
    && allows NotJudged Pl3 level lines.snapshot
    && allows NotJudged BelowPl1 level lines.g0
    && allows NotJudged Pl1 level lines.g1a
    && allows NotJudged Pl1 level lines.g1b
    && allows Pl1 Pl1 level lines.g1c
    && allows Pl1 Pl299 level lines.g_single
    && allows Pl1 Pl2 level lines.g2_item
    && allows Pl1 Pl299 level lines.g2

-- whether no line is clear
abbrev pub none_clear : Lines → Bool
none_clear lines =
    not (is_clear lines.serial)
    && not (is_clear lines.snapshot)
    && not (is_clear lines.g0)
    && not (is_clear lines.g1a)
    && not (is_clear lines.g1b)
    && not (is_clear lines.g1c)
    && not (is_clear lines.g_single)
    && not (is_clear lines.g2_item)
    && not (is_clear lines.g2)

-- whether these lines show why the level isn't a better one
abbrev pub shows : Level → Lines → Bool
shows Pl3 lines = true
shows Pl299 lines = is_found lines.serial && is_found lines.g2
shows Pl2 lines = is_found lines.serial && is_found lines.g2_item && is_found lines.g2
shows Pl1 lines = is_found lines.serial && (is_found lines.g1a || is_found lines.g1b || is_found lines.g1c)
shows NotJudged lines = none_clear lines
shows BelowPl1 lines = is_found lines.serial && is_found lines.g0
shows Unsound lines = is_found lines.serial && is_found lines.snapshot && none_clear lines

-- ---- ends

-- whether the rows at an end are known, or else no line is clear
abbrev pub is_known : Option Table → Lines → Bool
is_known (Some rows) lines = true
is_known None lines = none_clear lines

abbrev pub has_ends : Option Ends → Lines → Bool
has_ends None lines = false
has_ends (Some ends) lines = is_known ends.initial lines && is_known ends.last lines

-- ---- summaries

-- whether the level, the lines and the ends of a run with a part agree
abbrev pub is_coherent : Summary → Bool
is_coherent s = nat_le 1 s.parts && all_allow s.level s.lines && shows s.level s.lines && has_ends s.ends s.lines

-- ---- reasons

-- whether a byte is printable ASCII
abbrev pub is_printable : ℕ → Bool
is_printable b = nat_le 32 b && nat_le b 126

-- whether a reason is a text of one line, as those of reports are
abbrev pub is_one_line : Line → Bool
is_one_line Clear = true
is_one_line (Unjudged part) = true
is_one_line (Found part reason) = list_all is_printable reason

abbrev pub are_one_line : Lines → Bool
are_one_line lines =
    is_one_line lines.serial
    && is_one_line lines.snapshot
    && is_one_line lines.g0
    && is_one_line lines.g1a
    && is_one_line lines.g1b
    && is_one_line lines.g1c
    && is_one_line lines.g_single
    && is_one_line lines.g2_item
    && is_one_line lines.g2
