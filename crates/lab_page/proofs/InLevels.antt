-- What stands among the levels and the phenomena.
use Rattle.std.{proofs.Common.{ℕ, List, [], ◌∷◌, ◌++◌}, specs.{Prelude.{codes, flat_map}, List.{AllByRecursion}}}
use Rattle.lab_history.specs.History.{History}
use Rattle.lab_judge.specs.declared.report.Report.{Report}
use Rattle.lab_explain.specs.{Names.{level_line}, Places.{places_sentence}, Sentences.{finding_sentence}}
use Rattle.lab_reports.specs.{Phenomena.{phenomena}, declared.phenomenon.Phenomenon.{Phenomenon, TheVariants.{G0, G1a, G1b, G1c, GSingle, G2Item, G2}}}
use Rattle.lab_overview.specs.{Levels.{finding_cell, meaning_cells, phenomenon_line, phenomena_text, levels_open, ladder_of, levels_text}, Sentences.{led_text, paragraph_text}, Phrases.{phenomena_open}, Tags.{finding_open}}
use Rattle.lab_page.{specs.Untagged.{Holds}, proofs.Held.{in_front, within, front, back}}

-- a sentence stands in its cell
led_in_cell : (sentence : List ℕ) → Holds (finding_cell sentence) (led_text sentence)
unfolding finding_cell
led_in_cell sentence = in_front (finding_open ++ led_text sentence) (codes "</th><td>") (led_text sentence) (back finding_open (led_text sentence))

module _ (h : History) (report : Report) where
  abbrev pub level : List ℕ
  level = paragraph_text (level_line report.level)

  abbrev pub places : List ℕ
  places = paragraph_text (places_sentence report.snapshot)

  abbrev ladder : List ℕ
  ladder = ladder_of report.level

  abbrev lines : List ℕ
  lines = flat_map (phenomenon_line h report) phenomena

  abbrev close : List ℕ
  close = codes "</tbody>\n</table>\n</section>\n"

  pub level_in_levels : Holds (levels_text h report) level
  unfolding levels_text
  level_in_levels =
      in_front (levels_open ++ level ++ places ++ ladder) (phenomena_text h report) level
      (in_front (levels_open ++ level ++ places) ladder level (in_front (levels_open ++ level) places level (back levels_open level)))

  pub places_in_levels : Holds (levels_text h report) places
  unfolding levels_text
  places_in_levels =
      in_front (levels_open ++ level ++ places ++ ladder) (phenomena_text h report) places
      (in_front (levels_open ++ level ++ places) ladder places (back (levels_open ++ level) places))

  phenomena_in_levels : Holds (levels_text h report) (phenomena_text h report)
  unfolding levels_text
  phenomena_in_levels = back (levels_open ++ level ++ places ++ ladder) (phenomena_text h report)

  lines_in_phenomena : Holds (phenomena_text h report) lines
  unfolding phenomena_text
  lines_in_phenomena = in_front (phenomena_open ++ lines) close lines (back phenomena_open lines)

  lines_held : (whole : List ℕ) (ps : List Phenomenon) → Holds whole (flat_map (phenomenon_line h report) ps) → AllByRecursion (λ p. Holds whole (phenomenon_line h report p)) ps
  lines_held whole [] held = tt
  lines_held whole (p ∷ ps) held =
      let first : List ℕ = phenomenon_line h report p in
      let rest : List ℕ = flat_map (phenomenon_line h report) ps in
      (within whole (first ++ rest) first held (front first rest), lines_held whole ps (within whole (first ++ rest) rest held (back first rest)))

  each_line : (whole : List ℕ) (p : Phenomenon) → AllByRecursion (λ q. Holds whole (phenomenon_line h report q)) phenomena → Holds whole (phenomenon_line h report p)
  each_line whole G0 all = all.0
  each_line whole G1a all = all.1.0
  each_line whole G1b all = all.1.1.0
  each_line whole G1c all = all.1.1.1.0
  each_line whole GSingle all = all.1.1.1.1.0
  each_line whole G2Item all = all.1.1.1.1.1.0
  each_line whole G2 all = all.1.1.1.1.1.1.0

  line_in_levels : (p : Phenomenon) → Holds (levels_text h report) (phenomenon_line h report p)
  line_in_levels p =
      each_line (levels_text h report) p
      (lines_held (levels_text h report) phenomena (within (levels_text h report) (phenomena_text h report) lines phenomena_in_levels lines_in_phenomena))

  led_in_line : (p : Phenomenon) → Holds (phenomenon_line h report p) (led_text (finding_sentence h report p))
  unfolding phenomenon_line
  led_in_line p =
      in_front (finding_cell (finding_sentence h report p)) (meaning_cells p) (led_text (finding_sentence h report p)) (led_in_cell (finding_sentence h report p))

  pub led_in_levels : (p : Phenomenon) → Holds (levels_text h report) (led_text (finding_sentence h report p))
  led_in_levels p = within (levels_text h report) (phenomenon_line h report p) (led_text (finding_sentence h report p)) (line_in_levels p) (led_in_line p)
