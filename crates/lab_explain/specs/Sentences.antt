-- The sentences of an explanation, before they are broken into lines.
use Rattle.std.specs.Prelude.{ℕ, Option, Some, None, List, [], ◌++◌}
use Rattle.lab_history.specs.History.{History}
use Rattle.lab_deps.specs.FaultKinds.{parts_of}
use Rattle.lab_deps.specs.declared.edge.Edge.{Edge}
use Rattle.lab_deps.specs.declared.fault.LocalFault.{LocalFault}
use Rattle.lab_judge.specs.declared.report.Finding.{Finding}
use Rattle.lab_judge.specs.declared.report.Report.{Report}
use Rattle.lab_judge.specs.declared.serial.Serial.{Serial}
use Rattle.lab_judge.specs.declared.serial.Serial.TheVariants as serial
use Rattle.lab_drawing.specs.Making.{arrow_of}
use Rattle.lab_drawing.specs.declared.drawing.Arrow.{Arrow}
use Rattle.lab_reports.specs.Phenomena.{finding_of}
use Rattle.lab_reports.specs.declared.phenomenon.Phenomenon.{Phenomenon}
use Rattle.lab_explain.specs.Explanation.{order_sentence}
use Rattle.lab_explain.specs.Faults.{most_often, mistake}
use Rattle.lab_explain.specs.Findings.{head_of, found_beside, said_alone}
use Rattle.lab_explain.specs.Phrases.{no_order, unsound_text}
use Rattle.lab_explain.specs.Steps.{edge_text}
use Rattle.lab_explain.specs.Told.{serial_walk}

-- the first sentence of a serial verdict
abbrev pub serial_sentence : Serial → List ℕ
serial_sentence (serial.Yes order) = order_sentence order
serial_sentence (serial.NoFault f) = unsound_text
serial_sentence (serial.NoCycle walk) = no_order

-- the sentence of a dependency, where there are operations that make it
abbrev pub sentence_by : History → Edge → Option Arrow → List ℕ
sentence_by h e None = []
sentence_by h e (Some a) = edge_text h e a

-- the sentence of a dependency, by the operations between which the picture has its arrow
abbrev pub edge_sentence : History → Edge → List ℕ
edge_sentence h e = sentence_by h e (arrow_of h e)

-- how a recorder most often comes to a fault
abbrev pub mistake_text : LocalFault → List ℕ
mistake_text f = most_often (mistake (parts_of f))

-- the sentence of what is found of a phenomenon, beside the serial verdict
unfoldable pub finding_sentence : History → Report → Phenomenon → List ℕ
finding_sentence h report p = head_of h p (finding_of p report) ++ found_beside h p (serial_walk report.serial) (finding_of p report)

-- the first sentence of what is found of a phenomenon that is explained by itself
unfoldable pub found_sentence : History → Phenomenon → Finding → List ℕ
found_sentence h p found = head_of h p found ++ said_alone h p found
