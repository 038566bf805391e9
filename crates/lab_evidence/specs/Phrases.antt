-- Fixed texts of the history's half of a page.
use Rattle.std.specs.Prelude.{ℕ, List, codes}

-- what stands above the transactions
unfoldable pub transactions_caption : List ℕ
transactions_caption = codes " T2.1 is statement 1 of T2. Saw: which versions a statement saw; a row that isn't named was seen as it was at first. Listed: the rows that it found, each as (row, value). Wrote: the rows that it changed, as (row, value), or absent behind a delete. Bold is what is in question.</caption>\n<thead><tr><th scope=\"col\">No.</th><th scope=\"col\">Statement</th><th scope=\"col\">Saw</th><th scope=\"col\">Listed</th><th scope=\"col\">Wrote</th></tr></thead>\n"

-- what stands above the rows
unfoldable pub rows_caption : List ℕ
rows_caption = codes " The versions of each row, in the order in which committed transactions installed them. Bold are the rows in question.</caption>\n<thead><tr><th scope=\"col\">Row</th><th scope=\"col\">Versions</th><th scope=\"col\">In the end</th></tr></thead>\n<tbody>\n"
