-- Fixed texts around the parts of a page.
use Rattle.std.specs.Prelude.{ℕ, List, codes}

-- what each kind of dependency says
unfoldable pub kinds_text : List ℕ
kinds_text = codes "<details>\n<summary>What ww, wr, wr-p, rw and rw-p say</summary>\n<p><code>ww</code>: the second overwrote the row as the first left it.</p>\n<p><code>wr</code>: the second listed the row as the first left it.</p>\n<p><code>wr-p</code>: the first made the row begin or stop to match the where of the second, which saw that version or a later one.</p>\n<p><code>rw</code>: the first listed the row as it was just before the second overwrote it: it missed that change.</p>\n<p><code>rw-p</code>: the second made the row begin or stop to match the where of the first, which saw an earlier version: it missed that change.</p>\n</details>\n"
