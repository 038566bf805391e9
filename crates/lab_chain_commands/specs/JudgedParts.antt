-- The parts of a run as the code holds them.
use Rattle.std.specs.Prelude.{◌≡◌, ℕ, List}
use Rattle.lab_chain.specs.Chain.{Part, summary_of}
use Rattle.lab_chain_commands.specs.ChainAnswers.{AreParts, parts_text, parts_status}
use Rattle.lab_chain_commands.specs.declared.asked.Asked.{Asked}
use Rattle.lab_chain_commands.specs.declared.window.Window.{Window}
use Rattle.lab_chain_commands.specs.declared.judged_part.JudgedPart.{JudgedPart}

-- a part's name, and what became of it
abbrev pub part_of : JudgedPart → Part
part_of p = record { name = p.name.now; outcome = p.outcome }

-- a window has what is said of the parts of these names
pub record IsWindow (asked : Asked) (names : List (List ℕ)) (window : Window) : Type 0 where
  pub parts : List Part
  pub are : AreParts names parts
  pub summary_is : window.summary ≡ summary_of parts
  pub status_is : window.status ≡ parts_status parts
  pub text_is : window.text.items ≡ parts_text asked parts
