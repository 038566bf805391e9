-- The style of a page, the same in all pages. No byte of it is `<`, `>`, `&` or a double quote.
--
-- Origin: CSS.
use Rattle.std.specs.Prelude.{ℕ, List, ◌++◌, codes}

-- letters and paragraphs
unfoldable pub letters_style : List ℕ
letters_style = codes ":root{color-scheme:light dark;--line:#888}\n*{box-sizing:border-box}\nbody{font:1rem/1.5 system-ui,sans-serif;max-width:76rem;margin:0 auto;padding:1.5rem 1rem 4rem}\nh1{font-size:1.9rem;line-height:1.2;margin:0 0 .5rem;overflow-wrap:anywhere}\nh2{font-size:1.25rem;line-height:1.2;margin:3rem 0 .75rem;border-top:3px solid;padding-top:.6rem}\np,ol{max-width:46rem;margin:.5rem 0;overflow-wrap:anywhere}\na{color:inherit;text-underline-offset:.15em;text-decoration-thickness:1px}\ncode,pre,.m{font-family:ui-monospace,monospace;font-size:.875em}\nnav a{margin-right:1rem}\n.lede{font-size:1.125rem}\n.order{max-height:12rem;overflow:auto}\nsummary{cursor:pointer}\n"

-- the four tiles
unfoldable pub tiles_style : List ℕ
tiles_style = codes ".v{display:grid;grid-template-columns:repeat(4,1fr);gap:.75rem;margin:1.25rem 0 .75rem;padding:0;list-style:none}\n.v li{border:1px solid var(--line);padding:.6rem .8rem;font-size:.875rem}\n.v .no{border:4px solid;padding:calc(.6rem - 3px) calc(.8rem - 3px)}\n.v b{display:block;font-size:1.125rem}\n"

-- parts: sentences beside a picture, steps, and texts in boxes
unfoldable pub parts_style : List ℕ
parts_style = codes ".why{display:flex;flex-wrap:wrap;gap:1.5rem 2.5rem;align-items:flex-start}\n.why div{flex:1 1 24rem;min-width:0}\nfigure,details{margin:0;max-width:100%}\nfigcaption,caption{font-size:.875rem;text-align:left;padding:.4rem 0;max-width:46rem}\n.wide{overflow:auto;max-width:100%}\n.wide:focus-visible,a:focus-visible,summary:focus-visible{outline:3px solid;outline-offset:2px}\nsvg{display:block}\n.steps{list-style:none;padding:0}\n.steps li{padding:.6rem .8rem;border-left:3px solid var(--line);margin:0 0 .75rem}\n.chain,.note{font-size:.875rem}\npre{white-space:pre-wrap;overflow-wrap:anywhere;border:1px solid var(--line);padding:.8rem;margin:.5rem 0;max-height:28rem;overflow:auto}\n"

-- tables
unfoldable pub tables_style : List ℕ
tables_style = codes "table{border-collapse:collapse;width:100%}\nth,td{text-align:left;vertical-align:top;padding:.35rem .8rem .35rem 0;border-top:1px solid var(--line);overflow-wrap:anywhere;font-weight:400}\nthead th{border-top:0;font-size:.875rem;font-weight:700;overflow-wrap:normal}\n.here th,.here td{border-top:3px solid;border-bottom:3px solid;font-weight:700}\n.t th{font-weight:700;border-top:3px solid;padding-top:.6rem}\ntd.m,th.m{font-size:.8125rem}\nth.m{white-space:nowrap}\n.b,.b th,.b td,tr[class*=s] th{font-weight:700}\n.e,.note{display:block}\n.note{font-family:system-ui,sans-serif}\n"

-- narrow screens: a table's lines stand below one another, with words before their cells
unfoldable pub narrow_style : List ℕ
narrow_style = codes "@media screen and (max-width:47rem){\nh1{font-size:1.5rem}\n.v{grid-template-columns:1fr 1fr}\n.s thead{position:absolute;clip-path:inset(50%);height:1px;width:1px;overflow:hidden}\n.s tr,.s th,.s td{display:block;border:0;padding:0 0 .1rem}\n.s tr{border-top:1px solid var(--line);padding:.4rem 0}\n.s tr.t{border-top:3px solid}\n.s td:empty{display:none}\n.s td[data-l]::before{font:.8125rem system-ui,sans-serif;content:attr(data-l) ' '}\n.s .e{display:inline}\n.s .e + .e::before{content:'; '}\n}\n"

-- paper: no folds, no links
unfoldable pub paper_style : List ℕ
paper_style = codes "@media print{\n:root{color-scheme:light}\n@page{margin:14mm}\nbody{padding:0;font-size:10pt;max-width:none}\nnav,details,section:has(h2 + details){display:none}\nh2{margin-top:1.5rem}\nh2,caption,thead,.t{break-after:avoid}\ntr,li,figure,pre,caption{break-inside:avoid}\ntd.m,th.m{font-size:8pt}\n.e{white-space:nowrap}\n.why{display:block}\n.wide,pre,.order{overflow:visible;max-height:none}\nsvg{max-width:100%;height:auto}\na{text-decoration:none}\n}\n"

-- pointing at a step, or going to it, marks its lines in the tables and its boxes and its arrow in the picture
unfoldable pub steps_style : List ℕ
steps_style = codes ":root:has(#s0:is(:hover,:focus-within,:target)) :is(.s0,.p-0),\n:root:has(#s1:is(:hover,:focus-within,:target)) :is(.s1,.p-1),\n:root:has(#s2:is(:hover,:focus-within,:target)) :is(.s2,.p-2),\n:root:has(#s3:is(:hover,:focus-within,:target)) :is(.s3,.p-3),\n:root:has(#s4:is(:hover,:focus-within,:target)) :is(.s4,.p-4),\n:root:has(#s5:is(:hover,:focus-within,:target)) :is(.s5,.p-5),\n:root:has(#s6:is(:hover,:focus-within,:target)) :is(.s6,.p-6),\n:root:has(#s7:is(:hover,:focus-within,:target)) :is(.s7,.p-7),\n:root:has(#s8:is(:hover,:focus-within,:target)) :is(.s8,.p-8),\n:root:has(#s9:is(:hover,:focus-within,:target)) :is(.s9,.p-9),\n:root:has(#s10:is(:hover,:focus-within,:target)) :is(.s10,.p-10),\n:root:has(#s11:is(:hover,:focus-within,:target)) :is(.s11,.p-11),\n:root:has(#s12:is(:hover,:focus-within,:target)) :is(.s12,.p-12),\n:root:has(#s13:is(:hover,:focus-within,:target)) :is(.s13,.p-13),\n:root:has(#s14:is(:hover,:focus-within,:target)) :is(.s14,.p-14),\n:root:has(#s15:is(:hover,:focus-within,:target)) :is(.s15,.p-15),\n:root:has(#s16:is(:hover,:focus-within,:target)) :is(.s16,.p-16),\n:root:has(#s17:is(:hover,:focus-within,:target)) :is(.s17,.p-17),\n:root:has(#s18:is(:hover,:focus-within,:target)) :is(.s18,.p-18),\n:root:has(#s19:is(:hover,:focus-within,:target)) :is(.s19,.p-19),\n:root:has(#s20:is(:hover,:focus-within,:target)) :is(.s20,.p-20){outline:3px solid;outline-offset:-1px;stroke-width:5}\nsvg *{outline:0!important}\n.steps li:is(:hover,:focus-within,:target){border-left-width:8px;padding-left:calc(.8rem - 5px);border-color:currentColor}\n"

-- the style on a screen
unfoldable pub screen_style : List ℕ
screen_style = letters_style ++ tiles_style ++ parts_style ++ tables_style

-- the style
unfoldable pub style_text : List ℕ
style_text = screen_style ++ narrow_style ++ paper_style ++ steps_style
