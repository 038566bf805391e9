-- Which kinds of cycles two parts have, one behind the other: those that one of them has.
use Rattle.std.{proofs.Common.{◌≡◌, ℕ, ◌+◌, ◌≤◌, Bool, cond, List, [], ◌∷◌, map, refl, sym, ap, ◌∙◌, subst, ◌⊎◌, inl, inr}, specs.Prelude.{◌↔◌, not}}
use Rattle.lab_history.specs.History.{History}
use Rattle.lab_deps.specs.{KindSets.{is_anti}, declared.edge.{Edge.{Edge}, Kind.{Kind}}}
use Rattle.lab_judge.{specs.Phenomena.{IsClosedWalk, NoWalk, count_kind, is_write, is_item_anti, IsG0, IsG1c, IsG2Item, IsG2}, proofs.ClosedWalks.{times, times_are}}
use Rattle.lab_parts.{specs.{Whole.{joined}, WholeEdges.{moved_edge}}, proofs.SplitWalks.{Splits, IsMovedCycle, first_closed, second_closed, each_closed}}

-- moved edges have the kinds of the edges
times_moved : (a : History) (test : Kind → Bool) (es : List Edge) → times test (map (moved_edge a) es) ≡ times test es
times_moved a test [] = refl
times_moved a test (e ∷ es) = ap (λ n. cond (test e.kind) (1 + n) n) (times_moved a test es)

pub counts_moved : (a : History) (test : Kind → Bool) (es : List Edge) → count_kind test (map (moved_edge a) es) ≡ count_kind test es
counts_moved a test es = sym (times_are test (map (moved_edge a) es)) ∙ times_moved a test es ∙ times_are test es

-- a cycle whose edges of a kind are so many
abbrev pub IsCounted : (Kind → Bool) → (ℕ → Type 0) → History → List Edge → Type 0
IsCounted test Many h es = IsClosedWalk h es × Many (count_kind test es)

-- two parts are free of something where each of them is
abbrev pub SplitsFree : (History → Type 0) → History → History → Type 0
SplitsFree Free a b = Free (joined a b) ↔ (Free a × Free b)

module _ (a b : History) (splits : Splits a b) where
  -- cycles at all
  pub no_walk : SplitsFree (λ h. NoWalk (IsClosedWalk h)) a b
  no_walk = (
    (λ none. ((λ es w. none es (first_closed a b splits es w)), (λ es w. none (map (moved_edge a) es) (second_closed a b splits es w)))),
    (λ none es w. elim (each_closed a b splits es w) [ inl first ↦ none.0 es first | inr second ↦ none.1 second.0 second.1 ]),
  )

  module _ (test : Kind → Bool) (Many : ℕ → Type 0) where
    -- cycles with so many edges of a kind
    pub counted_first : (es : List Edge) → IsCounted test Many a es → IsCounted test Many (joined a b) es
    counted_first es w = (first_closed a b splits es w.0, w.1)

    pub counted_second : (es : List Edge) → IsCounted test Many b es → IsCounted test Many (joined a b) (map (moved_edge a) es)
    counted_second es w = (second_closed a b splits es w.0, subst Many (sym (counts_moved a test es)) w.1)

    pub counted_each : (es : List Edge) → IsCounted test Many (joined a b) es → IsCounted test Many a es ⊎ ((ds : List Edge) × IsCounted test Many b ds × (es ≡ map (moved_edge a) ds))
    counted_each es w = at (each_closed a b splits es w.0)
      where
        at : IsClosedWalk a es ⊎ IsMovedCycle a b es → IsCounted test Many a es ⊎ ((ds : List Edge) × IsCounted test Many b ds × (es ≡ map (moved_edge a) ds))
        at (inl first) = inl (first, w.1)
        at (inr (ds, second, is)) = inr (ds, (second, subst Many (ap (count_kind test) is ∙ counts_moved a test ds) w.1), is)

    pub no_counted : SplitsFree (λ h. NoWalk (IsCounted test Many h)) a b
    no_counted = (
      (λ none. ((λ es w. none es (counted_first es w)), (λ es w. none (map (moved_edge a) es) (counted_second es w)))),
      (λ none es w. elim (counted_each es w) [ inl first ↦ none.0 es first | inr second ↦ none.1 second.0 second.1 ]),
    )

  -- the kinds of cycles that have names
  pub no_g0 : SplitsFree (λ h. NoWalk (IsG0 h)) a b
  no_g0 = no_counted (λ k. not (is_write k)) (λ n. n ≡ 0)

  pub no_g1c : SplitsFree (λ h. NoWalk (IsG1c h)) a b
  no_g1c = no_counted is_anti (λ n. n ≡ 0)

  pub no_g2_item : SplitsFree (λ h. NoWalk (IsG2Item h)) a b
  no_g2_item = no_counted is_item_anti (λ n. 1 ≤ n)

  pub no_g2 : SplitsFree (λ h. NoWalk (IsG2 h)) a b
  no_g2 = no_counted is_anti (λ n. 1 ≤ n)
