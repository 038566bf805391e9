-- The sentences on a snapshot verdict.
use Rattle.std.specs.Prelude.{ℕ, ◌-◌, ◌<◌, ◌≤◌, ◌⊎◌, ◌&&◌, nat_lt, min, cond, Option, Some, None, List, [], ◌∷◌, ◌++◌, flat_map, length, take, Contains, codes}
use Rattle.std.specs.List.{All}
use Rattle.std.specs.Fmt.{decimal}
use Rattle.lab_judge.specs.Runs.{Span}
use Rattle.lab_judge.specs.declared.places.Point.{Point}
use Rattle.lab_judge.specs.declared.places.Point.TheVariants.{Start, Commit}
use Rattle.lab_judge.specs.declared.places.Places.{Places}
use Rattle.lab_judge.specs.declared.places.Places.TheVariants as places
use Rattle.lab_explain.specs.Lines.{paragraph}
use Rattle.lab_explain.specs.Phrases.{spans_head, circle_head, start_words, commit_words, place_words, first_words, behind_words, places_words, commits_words}

-- of these transactions, who committed last before a place, if one did
abbrev pub IsLastBefore : ℕ → List Span → Option Span → Type 0
IsLastBefore place spans None = All (λ s. place ≤ s.commit) spans
IsLastBefore place spans (Some last) = Contains spans last × (last.commit < place) × All (λ s. (place ≤ s.commit) ⊎ (s.commit ≤ last.commit)) spans

-- a transaction, if it committed before a place, and behind the one that is found so far
abbrev pub later : ℕ → Span → Option Span → Option Span
later place s None = cond (nat_lt s.commit place) (Some s) None
later place s (Some found) = cond (nat_lt s.commit place && nat_lt found.commit s.commit) (Some s) (Some found)

-- of the one that is found so far and these, who committed last before a place
abbrev pub last_before : ℕ → Option Span → List Span → Option Span
last_before place found [] = found
last_before place found (s ∷ ss) = last_before place (later place s found) ss

-- behind whose commit a transaction reads
abbrev pub behind_text : Option Span → List ℕ
behind_text None = first_words
behind_text (Some s) = behind_words ++ decimal s.txn ++ codes ","

-- a transaction, the place of its start, and behind whose commit among these that is
unfoldable pub start_text : List Span → ℕ → ℕ → List ℕ
start_text spans txn start = codes " T" ++ decimal txn ++ place_words ++ decimal start ++ behind_text (last_before start None spans)

-- the same, and the place of its commit
unfoldable pub span_text : List Span → Span → List ℕ
span_text spans s = start_text spans s.txn s.start ++ commits_words ++ decimal s.commit ++ codes "."

-- how many places aren't told
unfoldable pub untold_text : ℕ → List ℕ
untold_text n = places_words ++ decimal n ++ codes " more."

-- the transactions whose places are told: the first ten
abbrev pub told_spans : List Span → List Span
told_spans spans = take (min (length spans) 10) spans

-- the sentences of each of them, and what is said of the others
unfoldable pub each_text : List Span → List ℕ
each_text spans = flat_map (span_text spans) (told_spans spans) ++ cond (nat_lt 10 (length spans)) (untold_text (length spans - 10)) []

-- a start or a commit
abbrev pub point_text : Point → List ℕ
point_text (Start n) = start_words ++ decimal n
point_text (Commit n) = commit_words ++ decimal n

-- a start or a commit that has to come before the next
unfoldable pub before_text : Point → List ℕ
before_text p = point_text p ++ codes " before "

-- starts and commits, of which each has to come before the next, and the last before the first
abbrev pub circle_text : List Point → List ℕ
circle_text [] = []
circle_text (p ∷ ps) = flat_map before_text (p ∷ ps) ++ point_text p

-- a snapshot run: what its places are, and where each transaction has its own
unfoldable pub spans_text : List Span → List ℕ
spans_text spans = spans_head ++ each_text spans

-- no snapshot run: what would have to come before what
unfoldable pub circle_sentence : List Point → List ℕ
circle_sentence points = circle_head ++ circle_text points ++ codes "."

-- the sentence of a snapshot verdict
abbrev pub places_sentence : Places → List ℕ
places_sentence (places.Yes spans) = spans_text spans
places_sentence (places.NoFault f) = codes "Not a snapshot run, by the same fault."
places_sentence (places.NoCycle points) = circle_sentence points

-- its lines
abbrev pub places_lines : Places → List ℕ
places_lines snapshot = paragraph (places_sentence snapshot)
