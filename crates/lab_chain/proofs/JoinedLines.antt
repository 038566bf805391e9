-- The lines and the levels of several pieces of a run.
use Rattle.std.proofs.Common.{◌≡◌, ℕ, zero, suc, refl, sym, ap, ◌∙◌}
use Rattle.lab_chain.specs.Levels.{level_rank, worse}
use Rattle.lab_chain.specs.Lines.{line_weight, line_joined}
use Rattle.lab_chain.specs.Summary.{clear_lines, lines_joined}
use Rattle.lab_chain.specs.declared.{level.Level.{Level, TheVariants.{Pl3, Pl299, Pl2, Pl1, NotJudged, BelowPl1, Unsound}}, line.Line.{Line, TheVariants.{Clear, Unjudged, Found}}, summary.Lines.{Lines}}
use Rattle.lab_chain.proofs.HeavierLaws.{heaviest_of_three, heavier_of_two}

-- ---- lines
pub three_lines : (a b c : Line) → line_joined (line_joined a b) c ≡ line_joined a (line_joined b c)
three_lines a b c = heaviest_of_three line_weight a b c

pub clear_first : (a : Line) → line_joined Clear a ≡ a
clear_first Clear = refl
clear_first (Unjudged part) = refl
clear_first (Found part reason) = refl

pub clear_last : (a : Line) → line_joined a Clear ≡ a
clear_last Clear = refl
clear_last (Unjudged part) = refl
clear_last (Found part reason) = refl

three_pieces : (a b c : Lines) → lines_joined (lines_joined a b) c ≡ lines_joined a (lines_joined b c)
three_pieces a b c = λ i. record {
  serial = three_lines a.serial b.serial c.serial i;
  snapshot = three_lines a.snapshot b.snapshot c.snapshot i;
  g0 = three_lines a.g0 b.g0 c.g0 i;
  g1a = three_lines a.g1a b.g1a c.g1a i;
  g1b = three_lines a.g1b b.g1b c.g1b i;
  g1c = three_lines a.g1c b.g1c c.g1c i;
  g_single = three_lines a.g_single b.g_single c.g_single i;
  g2_item = three_lines a.g2_item b.g2_item c.g2_item i;
  g2 = three_lines a.g2 b.g2 c.g2 i;
}

pub all_clear_first : (a : Lines) → lines_joined clear_lines a ≡ a
all_clear_first a = λ i. record {
  serial = clear_first a.serial i;
  snapshot = clear_first a.snapshot i;
  g0 = clear_first a.g0 i;
  g1a = clear_first a.g1a i;
  g1b = clear_first a.g1b i;
  g1c = clear_first a.g1c i;
  g_single = clear_first a.g_single i;
  g2_item = clear_first a.g2_item i;
  g2 = clear_first a.g2 i;
}

pub all_clear_last : (a : Lines) → lines_joined a clear_lines ≡ a
all_clear_last a = λ i. record {
  serial = clear_last a.serial i;
  snapshot = clear_last a.snapshot i;
  g0 = clear_last a.g0 i;
  g1a = clear_last a.g1a i;
  g1b = clear_last a.g1b i;
  g1c = clear_last a.g1c i;
  g_single = clear_last a.g_single i;
  g2_item = clear_last a.g2_item i;
  g2 = clear_last a.g2 i;
}

-- three pieces with what is said between them, in whichever order they are joined
pub five_pieces : (a s b t c : Lines) → lines_joined (lines_joined a (lines_joined s b)) (lines_joined t c) ≡ lines_joined a (lines_joined s (lines_joined b (lines_joined t c)))
five_pieces a s b t c = three_pieces a (lines_joined s b) (lines_joined t c) ∙ ap (lines_joined a) (three_pieces s b (lines_joined t c))

-- the same where nothing is said of the one between
pub no_lines_between : (a s c : Lines) → lines_joined (lines_joined a (lines_joined clear_lines clear_lines)) (lines_joined s c) ≡ lines_joined a (lines_joined s (lines_joined clear_lines (lines_joined clear_lines c)))
no_lines_between a s c =
    ap (λ l. lines_joined l (lines_joined s c)) (all_clear_last a) ∙ sym (ap (λ l. lines_joined a (lines_joined s l)) (all_clear_first (lines_joined clear_lines c) ∙ all_clear_first c))

-- ---- levels
pub three_levels : (a b c : Level) → worse (worse a b) c ≡ worse a (worse b c)
three_levels a b c = heaviest_of_three level_rank a b c

level_at : ℕ → Level
level_at zero = Pl3
level_at (suc zero) = Pl299
level_at (suc (suc zero)) = Pl2
level_at (suc (suc (suc zero))) = Pl1
level_at (suc (suc (suc (suc zero)))) = NotJudged
level_at (suc (suc (suc (suc (suc zero))))) = BelowPl1
level_at (suc (suc (suc (suc (suc (suc n)))))) = Unsound

at_its_rank : (a : Level) → level_at (level_rank a) ≡ a
unfolding level_at
at_its_rank Pl3 = refl
at_its_rank Pl299 = refl
at_its_rank Pl2 = refl
at_its_rank Pl1 = refl
at_its_rank NotJudged = refl
at_its_rank BelowPl1 = refl
at_its_rank Unsound = refl

either_first : (a b : Level) → worse a b ≡ worse b a
either_first a b = heavier_of_two level_rank level_at at_its_rank a b

pub best_first : (a : Level) → worse Pl3 a ≡ a
best_first Pl3 = refl
best_first Pl299 = refl
best_first Pl2 = refl
best_first Pl1 = refl
best_first NotJudged = refl
best_first BelowPl1 = refl
best_first Unsound = refl

pub best_last : (a : Level) → worse a Pl3 ≡ a
best_last a = either_first a Pl3 ∙ best_first a

-- three pieces with what is said between them, in whichever order they are joined
pub five_levels : (a s b t c : Level) → worse (worse (worse (worse a s) b) t) c ≡ worse (worse a s) (worse (worse b t) c)
five_levels a s b t c = ap (λ l. worse l c) (three_levels (worse a s) b t) ∙ three_levels (worse a s) (worse b t) c

-- the same where nothing is said on either side of the one between
pub no_level_between : (a b s c : Level) → worse (worse (worse (worse a Pl3) b) s) c ≡ worse (worse a s) (worse (worse b Pl3) c)
no_level_between a b s c =
    ap (λ l. worse (worse (worse l b) s) c) (best_last a) ∙ ap (λ l. worse l c) (three_levels a b s ∙ ap (worse a) (either_first b s) ∙ sym (three_levels a s b))
    ∙ three_levels (worse a s) b c ∙ sym (ap (λ l. worse (worse a s) (worse l c)) (best_last b))
