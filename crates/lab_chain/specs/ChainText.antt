-- The text of the report on a run in parts: the number of parts, then ten lines.
use Rattle.std.specs.Prelude.{ℕ, ◌++◌, List, codes}
use Rattle.std.specs.Fmt.{decimal}
use Rattle.lab_printing.specs.Printed.{newline}
use Rattle.lab_judge.specs.ReportText.{line_text}
use Rattle.lab_chain.specs.Levels.{level_name}
use Rattle.lab_chain.specs.declared.line.Line.{Line}
use Rattle.lab_chain.specs.declared.line.Line.TheVariants.{Clear, Unjudged, Found}
use Rattle.lab_chain.specs.declared.summary.Summary.{Summary}

-- what a line says, by the words for what is clear and what is found
abbrev pub said_text : List ℕ → List ℕ → Line → List ℕ
said_text clear found Clear = clear
said_text clear found (Unjudged part) = codes "not judged " ++ part
said_text clear found (Found part reason) = found ++ codes " " ++ part ++ codes ": " ++ reason

-- whether the run is serializable, or a snapshot run
abbrev pub verdict_text : Line → List ℕ
verdict_text line = said_text (codes "yes") (codes "no") line

-- whether the run shows a phenomenon
abbrev pub presence_text : Line → List ℕ
presence_text line = said_text (codes "absent") (codes "present") line

-- how many parts a run has
abbrev pub count_text : ℕ → List ℕ
count_text parts = codes "=== parts " ++ decimal parts ++ newline

-- what is said of a run in parts
abbrev pub chain_text : Summary → List ℕ
chain_text s =
    count_text s.parts
    ++ line_text (codes "serializable") (verdict_text s.lines.serial)
    ++ line_text (codes "snapshot") (verdict_text s.lines.snapshot)
    ++ line_text (codes "G0") (presence_text s.lines.g0)
    ++ line_text (codes "G1a") (presence_text s.lines.g1a)
    ++ line_text (codes "G1b") (presence_text s.lines.g1b)
    ++ line_text (codes "G1c") (presence_text s.lines.g1c)
    ++ line_text (codes "G-single") (presence_text s.lines.g_single)
    ++ line_text (codes "G2-item") (presence_text s.lines.g2_item)
    ++ line_text (codes "G2") (presence_text s.lines.g2)
    ++ line_text (codes "level") (level_name s.level)
