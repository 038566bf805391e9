-- The tags of the report's half of a page, with the fixed words in them.
--
-- Origin: HTML.
use Rattle.std.specs.Prelude.{ℕ, List, codes}

-- what stands before what the user says of the page
unfoldable pub title_open : List ℕ
title_open = codes "<p class=\"of\">"

-- what stands before the sentence of the verdict
unfoldable pub lede_open : List ℕ
lede_open = codes "<p class=\"lede\">"

-- what stands before how many transactions there are
unfoldable pub counts_open : List ℕ
counts_open = codes "<p>Judged by <code>hermitage_lab</code>. Transactions: "

-- what stands before what is found of a phenomenon
unfoldable pub finding_open : List ℕ
finding_open = codes "<tr><th scope=\"row\">"

-- what stands before the lowest level that forbids it
unfoldable pub forbidden_open : List ℕ
forbidden_open = codes "</td><td data-l=\"forbidden from\">"

-- what stands before how the verdict is checked
unfoldable pub check_head : List ℕ
check_head = codes "<section aria-labelledby=\"check\">\n<h2 id=\"check\">Check it by hand</h2>\n"

-- what stands before the report
unfoldable pub report_head : List ℕ
report_head = codes "<section aria-labelledby=\"report\">\n<h2 id=\"report\">The report</h2>\n<pre tabindex=\"0\">"

-- what stands before the history
unfoldable pub history_head : List ℕ
history_head = codes "<section aria-labelledby=\"history\">\n<h2 id=\"history\">The history</h2>\n"

-- what stands before a file
unfoldable pub file_open : List ℕ
file_open = codes "<details>\n<summary>All that was judged, as JSON</summary>\n<pre tabindex=\"0\">"

-- what stands before how many of them committed
unfoldable pub counts_between : List ℕ
counts_between = codes ", of which "

-- what stands behind that
unfoldable pub counts_close : List ℕ
counts_close = codes " committed.</p>\n"

-- what stands behind the history: the end of the page
unfoldable pub page_close : List ℕ
page_close = codes "</section>\n</main>\n</body>\n</html>\n"
