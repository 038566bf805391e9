-- The value of what is said of a run has no float, and nests no deeper than JSON is read.
use Rattle.std.{proofs.Common.{◌≡◌, ◌≤◌, ℕ, ℤ, pos, negsuc, Bool, true, false, cond, Option, Some, None, List, refl, arith}, specs.Str.{is_utf8}}
use Rattle.std.specs.FinMap as map
use Rattle.serde_json.specs.{Data.{null, string, depth}, Read.{max_depth}, Written.{has_float}}
use Rattle.lab_table.specs.{Row.{Row}, Table.{Table}}
use Rattle.lab_history_file.specs.Tree.{value_tree, pair_tree}
use Rattle.lab_reports.proofs.WritableTree.{list_whole, list_flat}
use Rattle.lab_chain.specs.{ChainTree.{text_tree, said_tree, verdict_tree, presence_tree, phenomena_tree, rows_tree, first_tree, initial_of, last_of, chain_tree}, declared.{line.Line.{Line, TheVariants.{Clear, Unjudged, Found}}, summary.{Ends.{Ends}, Lines.{Lines}, Summary.{Summary}}}}

-- ---- no float

chosen_whole : (b : Bool) (text : List ℕ) → has_float (cond b (string text) null) ≡ false
chosen_whole true text = refl
chosen_whole false text = refl

text_whole : (text : List ℕ) → has_float (text_tree text) ≡ false
text_whole text = chosen_whole (is_utf8 text) text

said_whole : (clear found : List ℕ) (line : Line) → has_float (said_tree clear found line) ≡ false
said_whole clear found Clear = refl
said_whole clear found (Unjudged part) = rw (text_whole part) refl
said_whole clear found (Found part reason) = rw (text_whole part, text_whole reason) refl

value_whole : (z : ℤ) → has_float (value_tree z) ≡ false
value_whole (pos n) = refl
value_whole (negsuc n) = refl

entry_whole : (e : Row × ℤ) → has_float (pair_tree value_tree e) ≡ false
entry_whole e = rw (value_whole e.1) refl

rows_whole : (rows : Option Table) → has_float (rows_tree rows) ≡ false
rows_whole None = refl
rows_whole (Some table) = list_whole (pair_tree value_tree) entry_whole (map.entries table)

first_whole : (ends : Option Ends) → has_float (first_tree ends) ≡ false
first_whole None = refl
first_whole (Some ends) = text_whole ends.first

presence_whole : (line : Line) → has_float (presence_tree line) ≡ false
presence_whole line = said_whole _ _ line

phenomena_whole : (lines : Lines) → has_float (phenomena_tree lines) ≡ false
phenomena_whole lines =
    rw (
      presence_whole lines.g_single,
      presence_whole lines.g0,
      presence_whole lines.g1a,
      presence_whole lines.g1b,
      presence_whole lines.g1c,
      presence_whole lines.g2,
      presence_whole lines.g2_item,
    ) refl

verdict_whole : (line : Line) → has_float (verdict_tree line) ≡ false
verdict_whole line = said_whole _ _ line

pub chain_whole : (s : Summary) → has_float (chain_tree s) ≡ false
chain_whole s =
    rw (
      rows_whole (last_of s.ends),
      first_whole s.ends,
      rows_whole (initial_of s.ends),
      phenomena_whole s.lines,
      verdict_whole s.lines.serial,
      verdict_whole s.lines.snapshot,
    ) refl

-- ---- three levels

chosen_flat : (b : Bool) (text : List ℕ) → depth (cond b (string text) null) ≤ 0
chosen_flat true text = omega arith
chosen_flat false text = omega arith

text_flat : (text : List ℕ) → depth (text_tree text) ≤ 0
text_flat text = chosen_flat (is_utf8 text) text

said_flat : (clear found : List ℕ) (line : Line) → depth (said_tree clear found line) ≤ 1
said_flat clear found Clear = omega arith
said_flat clear found (Unjudged part) = omega (arith, text_flat part)
said_flat clear found (Found part reason) = omega (arith, text_flat part, text_flat reason)

rows_flat : (rows : Option Table) → depth (rows_tree rows) ≤ 2
rows_flat None = omega arith
rows_flat (Some table) = list_flat 1 (pair_tree value_tree) (λ e. omega arith) (map.entries table)

first_flat : (ends : Option Ends) → depth (first_tree ends) ≤ 0
first_flat None = omega arith
first_flat (Some ends) = text_flat ends.first

presence_flat : (line : Line) → depth (presence_tree line) ≤ 1
presence_flat line = said_flat _ _ line

phenomena_flat : (lines : Lines) → depth (phenomena_tree lines) ≤ 2
phenomena_flat lines =
    omega (
      arith,
      presence_flat lines.g_single,
      presence_flat lines.g0,
      presence_flat lines.g1a,
      presence_flat lines.g1b,
      presence_flat lines.g1c,
      presence_flat lines.g2,
      presence_flat lines.g2_item,
    )

verdict_flat : (line : Line) → depth (verdict_tree line) ≤ 1
verdict_flat line = said_flat _ _ line

pub chain_flat : (s : Summary) → depth (chain_tree s) ≤ max_depth
chain_flat s =
    omega (
      arith,
      rows_flat (last_of s.ends),
      first_flat s.ends,
      rows_flat (initial_of s.ends),
      phenomena_flat s.lines,
      verdict_flat s.lines.serial,
      verdict_flat s.lines.snapshot,
    )
