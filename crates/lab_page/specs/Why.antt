-- The steps of the verdict: each with its sentence and the versions of its row.
use Rattle.std.specs.Prelude.{ℕ, ◌+◌, ◌-◌, ◌==◌, nat_lt, cond, Option, Some, None, List, [], ◌∷◌, ◌++◌, length, codes}
use Rattle.std.specs.Fmt.{decimal}
use Rattle.lab_table.specs.Row.{Row}
use Rattle.lab_history.specs.History.{History}
use Rattle.lab_deps.specs.declared.edge.Edge.{Edge}
use Rattle.lab_deps.specs.declared.edge.Kind.{Kind}
use Rattle.lab_deps.specs.declared.fault.LocalFault.{LocalFault}
use Rattle.lab_judge.specs.declared.report.Report.{Report}
use Rattle.lab_judge.specs.declared.serial.Serial.{Serial}
use Rattle.lab_judge.specs.declared.serial.Serial.TheVariants as serial
use Rattle.lab_drawing.specs.Making.{arrow_of}
use Rattle.lab_drawing.specs.Sketch.{drawing_of}
use Rattle.lab_drawing.specs.Text.{escaped}
use Rattle.lab_drawing.specs.declared.drawing.Arrow.{Arrow}
use Rattle.lab_explain.specs.Faults.{recorded_text, due_text}
use Rattle.lab_explain.specs.Sentences.{serial_sentence, edge_sentence, mistake_text, found_sentence}
use Rattle.lab_reports.specs.Phenomena.{finding_of}
use Rattle.lab_reports.specs.declared.phenomenon.Phenomenon.{Phenomenon}
use Rattle.lab_evidence.specs.Chains.{asked_place, chain_text}
use Rattle.lab_overview.specs.Figure.{figure_text}
use Rattle.lab_evidence.specs.Markup.{op_text, row_text}
use Rattle.lab_overview.specs.Sentences.{led_text}
use Rattle.lab_page.specs.Phrases.{kinds_text}
use Rattle.lab_evidence.specs.Questions.{first_did, second_did, told_cycle, shown_steps}
use Rattle.lab_evidence.specs.Scope.{Scope}
use Rattle.lab_page.specs.Tags.{opening_open, steps_open, chain_open, why_head, sentences_open, row_open, versions_open, sentences_close, why_close}

-- the first sentence
abbrev pub opening_of : History → Report → Option Phenomenon → List ℕ
opening_of h report None = serial_sentence report.serial
opening_of h report (Some p) = found_sentence h p (finding_of p report)

-- it in the page
unfoldable pub opening_text : List ℕ → List ℕ
opening_text sentence = opening_open ++ escaped sentence ++ codes "</p>\n"

-- the beginning of a step
unfoldable pub item_head : ℕ → List ℕ
item_head step = codes "<li id=\"s" ++ decimal step ++ codes "\">"

-- a step: its sentence, and what stands below it
unfoldable pub item_text : ℕ → List ℕ → List ℕ → List ℕ
item_text step sentence below = item_head step ++ led_text sentence ++ below ++ codes "</li>\n"

-- the operations that make a dependency
unfoldable pub ends_text : History → Scope → Arrow → List ℕ
ends_text h s a = op_text h s a.from.txn a.from.op ++ codes " and " ++ op_text h s a.to.txn a.to.op

-- the versions of a row, those in question bold
abbrev pub step_chain : History → Scope → Kind → Arrow → List ℕ
step_chain h s kind a = chain_text h s a.row (asked_place h a.row a.from (first_did kind)) (asked_place h a.row a.to (second_did kind))

-- the operations
unfoldable pub below_ends : History → Scope → Arrow → List ℕ
below_ends h s a = chain_open ++ ends_text h s a

-- the row
unfoldable pub below_row : Row → List ℕ
below_row row = row_open ++ row_text row ++ versions_open

-- the operations and the row, before its versions
unfoldable pub below_head : History → Scope → Arrow → List ℕ
below_head h s a = below_ends h s a ++ below_row a.row

-- what stands below a step
unfoldable pub below_text : History → Scope → Kind → Arrow → List ℕ
below_text h s kind a = below_head h s a ++ step_chain h s kind a ++ codes "</p>"

abbrev pub below_by : History → Scope → Kind → Option Arrow → List ℕ
below_by h s kind None = []
below_by h s kind (Some a) = below_text h s kind a

-- the step of a dependency
abbrev pub edge_item : History → Scope → ℕ → Edge → List ℕ
edge_item h s step e = item_text step (edge_sentence h e) (below_by h s e.kind (arrow_of h e))

-- steps, where so many come before these
abbrev pub edge_items : History → Scope → ℕ → List Edge → List ℕ
edge_items h s before [] = []
edge_items h s before (e ∷ es) = edge_item h s (before + 1) e ++ edge_items h s (before + 1) es

-- the steps of a fault
abbrev pub recorded_item : History → LocalFault → List ℕ
recorded_item h f = item_text 1 (recorded_text h f) []

abbrev pub due_item : History → LocalFault → List ℕ
due_item h f = item_text 2 (due_text h f) []

abbrev pub mistake_item : LocalFault → List ℕ
mistake_item f = item_text 3 (mistake_text f) []

unfoldable pub fault_items : History → LocalFault → List ℕ
fault_items h f = recorded_item h f ++ due_item h f ++ mistake_item f

-- the same of a verdict that is a fault
abbrev pub serial_items : History → Serial → List ℕ
serial_items h (serial.Yes order) = []
serial_items h (serial.NoFault f) = fault_items h f
serial_items h (serial.NoCycle walk) = []

abbrev pub fault_steps : History → Report → Option Phenomenon → List ℕ
fault_steps h report None = serial_items h report.serial
fault_steps h report (Some p) = []

-- how many steps aren't shown
unfoldable pub untold_text : ℕ → List ℕ
untold_text count = codes "<p>" ++ decimal count ++ codes " more steps aren't shown; <a href=\"#report\">the report</a> names them.</p>\n"

abbrev pub untold_steps : ℕ → List ℕ
untold_steps count = cond (nat_lt 20 count) (untold_text (count - 20)) []

-- what stands behind the steps of a cycle
unfoldable pub behind_cycle : ℕ → List ℕ
behind_cycle count = untold_steps count ++ kinds_text

abbrev pub behind_steps : List Edge → List ℕ
behind_steps walk = cond (length walk == 0) [] (behind_cycle (length walk))

-- the steps
unfoldable pub steps_text : History → Scope → Report → Option Phenomenon → List ℕ
steps_text h s report asked =
    steps_open ++ edge_items h s 0 (shown_steps (told_cycle report asked)) ++ fault_steps h report asked ++ codes "</ol>\n"

-- the heading
abbrev pub serial_heading : Serial → List ℕ
serial_heading (serial.Yes order) = codes "An order that gives every row"
serial_heading (serial.NoFault f) = codes "What is wrong"
serial_heading (serial.NoCycle walk) = codes "Why no order fits"

abbrev pub heading_of : Report → Option Phenomenon → List ℕ
heading_of report None = serial_heading report.serial
heading_of report (Some p) = codes "What is found"

-- the beginning
unfoldable pub why_open : List ℕ → List ℕ
why_open heading = why_head ++ heading ++ sentences_open

-- the sentences
unfoldable pub sentences_text : History → Scope → Report → Option Phenomenon → List ℕ
sentences_text h s report asked = opening_text (opening_of h report asked) ++ steps_text h s report asked ++ behind_steps (told_cycle report asked)

-- the heading and the sentences
unfoldable pub why_told : History → Scope → Report → Option Phenomenon → List ℕ
why_told h s report asked = why_open (heading_of report asked) ++ sentences_text h s report asked ++ sentences_close

-- the picture of these columns
unfoldable pub why_drawn : List ℕ → List ℕ → List ℕ
why_drawn columns picture = figure_text columns picture ++ why_close

-- the whole part
unfoldable pub why_text : History → Scope → Report → Option Phenomenon → List ℕ → List ℕ
why_text h s report asked picture = why_told h s report asked ++ why_drawn (drawing_of h report asked).columns picture
