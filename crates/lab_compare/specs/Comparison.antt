-- The text of a comparison: the results line by line, the end, and the reports side by side.
use Rattle.std.specs.Prelude.{ℕ, ◌+◌, ◌==◌, Bool, cond, Option, Some, None, List, [], ◌∷◌, ◌++◌, length, map, count_by, codes}
use Rattle.std.specs.List.{list_any}
use Rattle.std.specs.Fmt.{decimal}
use Rattle.lab_table.specs.Sessions.{all_sessions}
use Rattle.lab_table.specs.declared.statement.Command.{Command}
use Rattle.lab_table.specs.declared.statement.Command.TheVariants.{Begin, Commit, Abort, Run}
use Rattle.lab_printing.specs.Printed.{newline}
use Rattle.lab_script.specs.Printed.{printed_table}
use Rattle.lab_script.specs.declared.script.Line.{Line}
use Rattle.lab_script.specs.declared.script.Script.{Script}
use Rattle.lab_history.specs.History.{History}
use Rattle.lab_engine.specs.RecordedLog.{RecordedLog}
use Rattle.lab_engine.specs.declared.event.Level.{Level}
use Rattle.lab_judge.specs.declared.report.Report.{Report}
use Rattle.lab_reports.specs.Shortfall.{first_found, is_present}
use Rattle.lab_reports.specs.declared.phenomenon.Phenomenon.{Phenomenon}
use Rattle.lab_reports.specs.declared.phenomenon.Phenomenon.TheVariants.{G0, G1a, G1b, G1c, GSingle, G2Item, G2}
use Rattle.lab_matrix.specs.MatrixText.{cell_text}
use Rattle.lab_explain.specs.Explanation.{explanation_of}
use Rattle.lab_compare.specs.Told.{asked_text}
use Rattle.lab_compare.specs.Commits.{commits_of}
use Rattle.lab_compare.specs.Cells.{cells_of}
use Rattle.lab_compare.specs.Alike.{alike_text, differing_text, explanations_text, columns_behind}
use Rattle.lab_compare.specs.Topics.{topic_told}
use Rattle.lab_compare.specs.Behind.{rows_told}
use Rattle.lab_compare.specs.declared.side.Side.{Side}
use Rattle.lab_compare.specs.declared.side.Summary.{Summary}
use Rattle.lab_compare.specs.declared.side.Column.TheVariants.{Engine, Grade}
use Rattle.lab_compare.specs.declared.side.Topic.TheVariants.{Answer, End, Explained}

-- ---- one engine's side

-- the phenomena, in the order of a report
abbrev pub all_phenomena : List Phenomenon
all_phenomena = G0 ∷ G1a ∷ G1b ∷ G1c ∷ GSingle ∷ G2Item ∷ G2 ∷ []

-- the lowest phenomenon that is present, if there is one
abbrev pub lowest : Report → Option Phenomenon
lowest report = first_found is_present report all_phenomena

-- what `explain` says of a phenomenon; nothing where there is none
abbrev pub explained : History → Report → Option Phenomenon → List ℕ
explained h report None = []
explained h report (Some p) = explanation_of h report (Some p)

-- the committed rows in the end
abbrev pub end_text : History → List ℕ
end_text h = codes "rows " ++ printed_table h.end_table

-- what there is to say of a play and its judgement
abbrev pub summary_of : List Line → RecordedLog → Report → Summary
summary_of lines recording report = record {
  cells = cells_of recording.log lines;
  end = end_text recording.history;
  grade = cell_text report;
  explained = explained recording.history report (lowest report);
}

-- that, with what the commits of the play install, and the level that it is at
abbrev pub side_of : Level → List Line → RecordedLog → Report → Side
side_of level lines recording report = record { level = level; commits = commits_of recording; summary = summary_of lines recording report }

-- ---- all sides

-- behind the line at a place, if it is a commit, the committed rows where they differ
abbrev pub behind_text : List Side → ℕ → Command → List ℕ
behind_text sides place Begin = []
behind_text sides place Commit = differing_text (codes " -- rows ") (map (rows_told place) sides)
behind_text sides place Abort = []
behind_text sides place (Run statement) = []

-- a line of the script, what it was answered, and the committed rows behind it where they are to be told
abbrev pub line_text : List Side → ℕ → Line → List ℕ
line_text sides place line = asked_text line.session line.command ++ alike_text (map (topic_told (Answer place)) sides) ++ behind_text sides place line.command

-- the lines of a script, of which the first has this place
abbrev pub lines_text : List Side → ℕ → List Line → List ℕ
lines_text sides place [] = []
lines_text sides place (line ∷ lines) = line_text sides place line ++ lines_text sides (place + 1) lines

-- ---- the whole

-- so many things of this name
abbrev pub counted : ℕ → List ℕ → List ℕ
counted n name = decimal n ++ name ++ cond (n == 1) [] (codes "s")

-- whether a session has a line
abbrev pub has_line : List Line → ℕ → Bool
has_line lines session = list_any (λ line. line.session == session) lines

-- how many sessions have one
abbrev pub session_count : List Line → ℕ
session_count lines = count_by (has_line lines) all_sessions

-- what the text begins with
unfoldable pub opening : List ℕ
opening = codes "compare: script of "

-- what the line of the rows to begin with does
unfoldable pub start_words : List ℕ
start_words = codes "start: rows "

-- the first line: of how many lines and sessions the script is
abbrev pub heading : List Line → List ℕ
heading lines = opening ++ counted (length lines) (codes " line") ++ codes ", " ++ counted (session_count lines) (codes " session") ++ newline

-- the rows to begin with
abbrev pub start_text : Script → List ℕ
start_text script = start_words ++ printed_table script.setup ++ newline

-- the committed rows in the end
abbrev pub ends_text : List Side → List ℕ
ends_text sides = codes "end" ++ alike_text (map (topic_told End) sides)

-- the engines, and under each the level that its history meets
abbrev pub levels_text : List Side → List ℕ
levels_text sides = codes "engine" ++ columns_behind Engine 6 sides ++ codes "level" ++ columns_behind Grade 5 sides

-- what is explained, once for all engines of which that is
abbrev pub explained_all : List Side → List ℕ
explained_all sides = explanations_text (map (topic_told Explained) sides)

-- what stands before the lines, and what stands behind them
abbrev pub front_text : Script → List ℕ
front_text script = heading script.lines ++ start_text script

abbrev pub back_text : List Side → List ℕ
back_text sides = ends_text sides ++ levels_text sides ++ explained_all sides

-- the comparison of what a script comes to on these sides
abbrev pub comparison_text : Script → List Side → List ℕ
comparison_text script sides = front_text script ++ lines_text sides 0 script.lines ++ back_text sides
