-- The tags around the parts of a page, with the fixed words in them.
--
-- Origin: HTML.
use Rattle.std.specs.Prelude.{ℕ, List, codes}

-- what stands before the first sentence
unfoldable pub opening_open : List ℕ
opening_open = codes "<p id=\"s0\" class=\"order\" tabindex=\"0\">"

-- what stands before steps
unfoldable pub steps_open : List ℕ
steps_open = codes "<ol class=\"steps\">\n"

-- what stands before the versions of a step's row
unfoldable pub chain_open : List ℕ
chain_open = codes "\n<p class=\"chain\">"

-- what stands before the heading of why
unfoldable pub why_head : List ℕ
why_head = codes "<section aria-labelledby=\"why\">\n<h2 id=\"why\">"

-- what stands behind that heading, before the sentences
unfoldable pub sentences_open : List ℕ
sentences_open = codes "</h2>\n<div class=\"why\">\n<div>\n"

-- what stands before the row of a step
unfoldable pub row_open : List ℕ
row_open = codes "; row "

-- what stands before its versions
unfoldable pub versions_open : List ℕ
versions_open = codes ", version by version: "

-- what stands behind the sentences
unfoldable pub sentences_close : List ℕ
sentences_close = codes "</div>\n"

-- what stands behind the picture
unfoldable pub why_close : List ℕ
why_close = codes "</div>\n</section>\n"
