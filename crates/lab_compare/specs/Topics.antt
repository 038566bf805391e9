-- The text of one engine on one topic: the results of a line, the end, or an explanation.
use Rattle.std.specs.Prelude.{ℕ, Option, Some, None, List, [], slice_get}
use Rattle.lab_compare.specs.declared.cells.Cell.{Cell}
use Rattle.lab_compare.specs.declared.side.Side.{Side}
use Rattle.lab_compare.specs.declared.side.Topic.{Topic}
use Rattle.lab_compare.specs.declared.side.Topic.TheVariants.{Answer, End, Explained}
use Rattle.lab_compare.specs.declared.telling.Content.TheVariants.{Text}
use Rattle.lab_compare.specs.declared.telling.Telling.{Telling}

-- what a line was answered
abbrev pub said_in : Option Cell → List ℕ
said_in None = []
said_in (Some cell) = cell.said

-- the text of a topic
abbrev pub topic_text : Topic → Side → List ℕ
topic_text (Answer place) side = said_in (slice_get side.summary.cells place)
topic_text End side = side.summary.end
topic_text Explained side = side.summary.explained

-- that is what its engine tells of it
abbrev pub topic_told : Topic → Side → Telling
topic_told of side = record { level = side.level; content = Text (topic_text of side) }
