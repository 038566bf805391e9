-- Coherent pieces of a run, joined, make a coherent one.
use Rattle.std.{proofs.{Common.{◌≡◌, ℕ, ◌+◌, Bool, true, false, ◌&&◌, ◌||◌, not, cond, Option, Some, None, List, [], refl, sym, ap, ◌∙◌, subst, arith}, Math.Bool.{or-true}, lemmas.Bool.{and_parts, false≢true, Decides.{nat_tests}}}, specs.{Prelude.{nat_le, nat_lt}, Cmp.Derive.{both_true}}}
use Rattle.lab_table.specs.{Row.{Row}, Table.{Table}}
use Rattle.lab_chain.specs.{Chain.{is_clear, is_found}, Coherence.{at_best, allows, all_allow, none_clear, shows, is_known, has_ends, is_coherent}, Levels.{level_rank, worse}, Lines.{line_joined}, Summary.{lines_joined, seam_at, seam_between, ends_joined, parted_at, counted, joined}}
use Rattle.lab_chain.specs.declared.{level.Level.{Level, TheVariants.{Pl3, Pl299, Pl2, Pl1, NotJudged, BelowPl1, Unsound}}, line.Line.{Line, TheVariants.{Clear, Unjudged, Found}}, seam.Seam.{Seam}, summary.{Ends.{Ends}, Lines.{Lines}, Summary.{Summary}}}
use Rattle.lab_chain.proofs.JoinedLines.{three_levels}

-- ---- tests

-- where two tests follow each from two others, so does their conjunction
joined_and : {p q r x y z : Bool} → (p ≡ true → q ≡ true → r ≡ true) → (x ≡ true → y ≡ true → z ≡ true) → (p && x) ≡ true → (q && y) ≡ true → (r && z) ≡ true
joined_and {p} {q} {r} {x} {y} {z} f g one other =
    let here = and_parts p x one in
    let there = and_parts q y other in
    both_true (f here.0 there.0) (g here.1 there.1)

and_more : {p q x y : Bool} → (p ≡ true → q ≡ true) → (x ≡ true → y ≡ true) → (p && x) ≡ true → (q && y) ≡ true
and_more {p} {q} {x} {y} f g is = let here = and_parts p x is in both_true (f here.0) (g here.1)

or_more : (p q x y : Bool) → (p ≡ true → q ≡ true) → (x ≡ true → y ≡ true) → (p || x) ≡ true → (q || y) ≡ true
or_more true q x y f g is = ap (λ b. b || y) (f refl)
or_more false q x y f g is = ap (λ b. q || b) (g is) ∙ or-true q

-- ---- levels

worse_first : (best k l : Level) → at_best best k ≡ true → at_best best (worse k l) ≡ true
worse_first best k l is = at (nat_lt (level_rank k) (level_rank l)) refl
  where
    at : (x : Bool) → nat_lt (level_rank k) (level_rank l) ≡ x → at_best best (cond x l k) ≡ true
    at true less = grind (arith, nat_tests, is, less)
    at false over = is

worse_last : (best k l : Level) → at_best best l ≡ true → at_best best (worse k l) ≡ true
worse_last best k l is = at (nat_lt (level_rank k) (level_rank l)) refl
  where
    at : (x : Bool) → nat_lt (level_rank k) (level_rank l) ≡ x → at_best best (cond x l k) ≡ true
    at true less = is
    at false over = grind (arith, nat_tests, is, over)

-- ---- lines

module _ (u f k l : Level) where
  allows_joined : (a b : Line) → allows u f k a ≡ true → allows u f l b ≡ true → allows u f (worse k l) (line_joined a b) ≡ true
  allows_joined Clear Clear p q = refl
  allows_joined Clear (Unjudged part) p q = worse_last u k l q
  allows_joined Clear (Found part reason) p q = worse_last f k l q
  allows_joined (Unjudged part) Clear p q = worse_first u k l p
  allows_joined (Unjudged part) (Unjudged other) p q = worse_first u k l p
  allows_joined (Unjudged part) (Found other reason) p q = worse_last f k l q
  allows_joined (Found part reason) Clear p q = worse_first f k l p
  allows_joined (Found part reason) (Unjudged other) p q = worse_first f k l p
  allows_joined (Found part reason) (Found other why) p q = worse_first f k l p

all_joined : (k l : Level) (a b : Lines) → all_allow k a ≡ true → all_allow l b ≡ true → all_allow (worse k l) (lines_joined a b) ≡ true
all_joined k l a b =
    joined_and (joined_and (joined_and (joined_and (joined_and (joined_and (joined_and (joined_and (allows_joined NotJudged Pl299 k l a.serial b.serial)
    (allows_joined NotJudged Pl3 k l a.snapshot b.snapshot))
    (allows_joined NotJudged BelowPl1 k l a.g0 b.g0))
    (allows_joined NotJudged Pl1 k l a.g1a b.g1a))
    (allows_joined NotJudged Pl1 k l a.g1b b.g1b))
    (allows_joined Pl1 Pl1 k l a.g1c b.g1c))
    (allows_joined Pl1 Pl299 k l a.g_single b.g_single))
    (allows_joined Pl1 Pl2 k l a.g2_item b.g2_item))
    (allows_joined Pl1 Pl299 k l a.g2 b.g2)

found_first : (a b : Line) → is_found a ≡ true → is_found (line_joined a b) ≡ true
found_first Clear b is = absurd (false≢true is)
found_first (Unjudged part) b is = absurd (false≢true is)
found_first (Found part reason) Clear is = refl
found_first (Found part reason) (Unjudged other) is = refl
found_first (Found part reason) (Found other why) is = refl

found_last : (a b : Line) → is_found b ≡ true → is_found (line_joined a b) ≡ true
found_last a Clear is = absurd (false≢true is)
found_last a (Unjudged part) is = absurd (false≢true is)
found_last Clear (Found part reason) is = refl
found_last (Unjudged other) (Found part reason) is = refl
found_last (Found other why) (Found part reason) is = refl

unclear_first : (a b : Line) → not (is_clear a) ≡ true → not (is_clear (line_joined a b)) ≡ true
unclear_first Clear b is = absurd (false≢true is)
unclear_first (Unjudged part) Clear is = refl
unclear_first (Unjudged part) (Unjudged other) is = refl
unclear_first (Unjudged part) (Found other why) is = refl
unclear_first (Found part reason) Clear is = refl
unclear_first (Found part reason) (Unjudged other) is = refl
unclear_first (Found part reason) (Found other why) is = refl

unclear_last : (a b : Line) → not (is_clear b) ≡ true → not (is_clear (line_joined a b)) ≡ true
unclear_last a Clear is = absurd (false≢true is)
unclear_last Clear (Unjudged part) is = refl
unclear_last (Unjudged other) (Unjudged part) is = refl
unclear_last (Found other why) (Unjudged part) is = refl
unclear_last Clear (Found part reason) is = refl
unclear_last (Unjudged other) (Found part reason) is = refl
unclear_last (Found other why) (Found part reason) is = refl

module _ (a b : Lines) where
  none_first : none_clear a ≡ true → none_clear (lines_joined a b) ≡ true
  none_first =
      and_more (and_more (and_more (and_more (and_more (and_more (and_more (and_more (unclear_first a.serial b.serial) (unclear_first a.snapshot b.snapshot))
      (unclear_first a.g0 b.g0))
      (unclear_first a.g1a b.g1a))
      (unclear_first a.g1b b.g1b))
      (unclear_first a.g1c b.g1c))
      (unclear_first a.g_single b.g_single))
      (unclear_first a.g2_item b.g2_item))
      (unclear_first a.g2 b.g2)

  none_last : none_clear b ≡ true → none_clear (lines_joined a b) ≡ true
  none_last =
      and_more (and_more (and_more (and_more (and_more (and_more (and_more (and_more (unclear_last a.serial b.serial) (unclear_last a.snapshot b.snapshot))
      (unclear_last a.g0 b.g0))
      (unclear_last a.g1a b.g1a))
      (unclear_last a.g1b b.g1b))
      (unclear_last a.g1c b.g1c))
      (unclear_last a.g_single b.g_single))
      (unclear_last a.g2_item b.g2_item))
      (unclear_last a.g2 b.g2)

  shows_first : (l : Level) → shows l a ≡ true → shows l (lines_joined a b) ≡ true
  shows_first Pl3 = λ is. refl
  shows_first Pl299 = and_more (found_first a.serial b.serial) (found_first a.g2 b.g2)
  shows_first Pl2 = and_more (and_more (found_first a.serial b.serial) (found_first a.g2_item b.g2_item)) (found_first a.g2 b.g2)
  shows_first Pl1 =
      and_more (found_first a.serial b.serial) (or_more _ _ _ _ (or_more _ _ _ _ (found_first a.g1a b.g1a) (found_first a.g1b b.g1b)) (found_first a.g1c b.g1c))
  shows_first NotJudged = none_first
  shows_first BelowPl1 = and_more (found_first a.serial b.serial) (found_first a.g0 b.g0)
  shows_first Unsound = and_more (and_more (found_first a.serial b.serial) (found_first a.snapshot b.snapshot)) none_first

  shows_last : (l : Level) → shows l b ≡ true → shows l (lines_joined a b) ≡ true
  shows_last Pl3 = λ is. refl
  shows_last Pl299 = and_more (found_last a.serial b.serial) (found_last a.g2 b.g2)
  shows_last Pl2 = and_more (and_more (found_last a.serial b.serial) (found_last a.g2_item b.g2_item)) (found_last a.g2 b.g2)
  shows_last Pl1 =
      and_more (found_last a.serial b.serial) (or_more _ _ _ _ (or_more _ _ _ _ (found_last a.g1a b.g1a) (found_last a.g1b b.g1b)) (found_last a.g1c b.g1c))
  shows_last NotJudged = none_last
  shows_last BelowPl1 = and_more (found_last a.serial b.serial) (found_last a.g0 b.g0)
  shows_last Unsound = and_more (and_more (found_last a.serial b.serial) (found_last a.snapshot b.snapshot)) none_last

  shows_joined : (k l : Level) → shows k a ≡ true → shows l b ≡ true → shows (worse k l) (lines_joined a b) ≡ true
  shows_joined k l one other = at (nat_lt (level_rank k) (level_rank l))
    where
      at : (x : Bool) → shows (cond x l k) (lines_joined a b) ≡ true
      at true = shows_last l other
      at false = shows_first k one

  known_first : (rows : Option Table) → is_known rows a ≡ true → is_known rows (lines_joined a b) ≡ true
  known_first (Some table) = λ is. refl
  known_first None = none_first

  known_last : (rows : Option Table) → is_known rows b ≡ true → is_known rows (lines_joined a b) ≡ true
  known_last (Some table) = λ is. refl
  known_last None = none_last

  ends_first : (e f : Option Ends) → has_ends e a ≡ true → has_ends f b ≡ true → has_ends (ends_joined e f) (lines_joined a b) ≡ true
  ends_first None f one other = absurd (false≢true one)
  ends_first (Some e) None one other = absurd (false≢true other)
  ends_first (Some e) (Some f) one other =
      both_true (known_first e.initial (and_parts (is_known e.initial a) (is_known e.last a) one).0) (known_last f.last (and_parts (is_known f.initial b) (is_known f.last b) other).1)

-- the ends of a piece behind a seam
ends_behind : (s b : Lines) (f : Option Ends) → has_ends f b ≡ true → has_ends f (lines_joined s b) ≡ true
ends_behind s b None is = absurd (false≢true is)
ends_behind s b (Some f) is = and_more (known_last s b f.initial) (known_last s b f.last) is

-- ---- seams

-- the lines and the level of a piece agree
abbrev Agrees : Level → Lines → Type 0
Agrees level lines = (all_allow level lines ≡ true) × (shows level lines ≡ true)

at_seam : (part : List ℕ) (row : Option Row) → Agrees (seam_at part row).level (seam_at part row).lines
at_seam part None = (refl, refl)
at_seam part (Some row) = (refl, refl)

between : (e f : Option Ends) → Agrees (seam_between e f).level (seam_between e f).lines
between None f = at_seam [] None
between (Some e) None = at_seam [] None
between (Some e) (Some f) = at_seam f.first (parted_at e.last f.initial)

agree_joined : (k l : Level) (a b : Lines) → Agrees k a → Agrees l b → Agrees (worse k l) (lines_joined a b)
agree_joined k l a b one other = (all_joined k l a b one.0 other.0, shows_joined a b k l one.1 other.1)

-- ---- pieces

some_counted : (m n : ℕ) → nat_le 1 m ≡ true → nat_le 1 (counted (m + n)) ≡ true
some_counted m n is = grind (arith, nat_tests, is)

-- what is asked of a coherent summary, one after another
pub record Coherent (s : Summary) : Type 0 where
  pub some : nat_le 1 s.parts ≡ true
  pub agrees : Agrees s.level s.lines
  pub ends : has_ends s.ends s.lines ≡ true

pub to_coherent : (s : Summary) → is_coherent s ≡ true → Coherent s
to_coherent s is =
    let last = and_parts (nat_le 1 s.parts && all_allow s.level s.lines && shows s.level s.lines) (has_ends s.ends s.lines) is in
    let second = and_parts (nat_le 1 s.parts && all_allow s.level s.lines) (shows s.level s.lines) last.0 in
    let first = and_parts (nat_le 1 s.parts) (all_allow s.level s.lines) second.0 in
    record { some = first.0; agrees = (first.1, second.1); ends = last.1 }

pub from_coherent : (s : Summary) → Coherent s → is_coherent s ≡ true
from_coherent s c = both_true (both_true (both_true c.some c.agrees.0) c.agrees.1) c.ends

pub coherent_joined : (a b : Summary) → is_coherent a ≡ true → is_coherent b ≡ true → is_coherent (joined a b) ≡ true
coherent_joined a b one other =
    let c : Coherent a = to_coherent a one in
    let d : Coherent b = to_coherent b other in
    let seam : Seam = seam_between a.ends b.ends in
    let behind : Agrees (worse seam.level b.level) (lines_joined seam.lines b.lines) = agree_joined seam.level b.level seam.lines b.lines (between a.ends b.ends) d.agrees in
    let whole : Agrees (worse a.level (worse seam.level b.level)) (lines_joined a.lines (lines_joined seam.lines b.lines))
    = agree_joined a.level (worse seam.level b.level) a.lines (lines_joined seam.lines b.lines) c.agrees behind in
    from_coherent (joined a b) (record {
      some = some_counted a.parts b.parts c.some;
      agrees = subst (λ l. Agrees l (lines_joined a.lines (lines_joined seam.lines b.lines))) (sym (three_levels a.level seam.level b.level)) whole;
      ends = ends_first a.lines (lines_joined seam.lines b.lines) a.ends b.ends c.ends (ends_behind seam.lines b.lines b.ends d.ends);
    })
