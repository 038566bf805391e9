-- Tests for long forks and phantoms find them.
use Rattle.std.{proofs.{Common.{◌≡◌, ◌⊎◌, inl, inr, ℕ, Bool, true, false, ◌||◌, not, List, [], ◌∷◌, length, get_or, refl, sym, ap, ◌∙◌, arith}, lemmas.{Bool.{false≢true, true≢false, and_parts, and_from, or_cases, or_left, or_right, not-true, not_from_false}, List.Folds.{Any-from_list_any, list_any-from_Any}}}, specs.List.{Any}}
use Rattle.lab_table.specs.Row.{Row}
use Rattle.lab_history.specs.History.{History}
use Rattle.lab_deps.specs.declared.edge.{Edge.{Edge}, Kind.{Kind, TheVariants.{Write, ItemRead, PredicateRead, ItemAnti, PredicateAnti}}}
use Rattle.lab_drawing.specs.Forks.{splits, split_rows, is_fork, fork_of, is_long_fork, ties_otherwise, ties_at_some, is_tied_otherwise, is_predicate_anti, is_phantom_at, is_phantom}
use Rattle.lab_drawing.specs.Reads.{read_older, read_newer}
use Rattle.lab_drawing.specs.Written.{rows_by}
use Rattle.lab_drawing.specs.Anomalies.{Wrote, Splits, IsFork, IsLongFork, IsPhantomAt}
use Rattle.lab_drawing.specs.declared.forks.Fork.{Fork}
use Rattle.lab_drawing.proofs.{Orderables.{passed, kept, some_passes}, WrittenRows.{member_wrote, wrote_member, two_so, so_two}, ReadForms.{before_so, after_so, so_before, so_after, after_wrote}, PairForms.{row_any, any_so}}

module _ (h : History) where
  -- long forks
  splits_so : (writer saw missed : ℕ) (row : Row) → Wrote h writer row → splits h writer saw missed row ≡ true → Splits h writer saw missed row
  splits_so writer saw missed row wrote is =
      let parts = and_parts (read_newer h saw row writer) (read_older h missed row writer) is in
      (after_so h saw row writer wrote parts.0, before_so h missed row writer wrote parts.1)

  so_splits : (writer saw missed : ℕ) (row : Row) → Splits h writer saw missed row → splits h writer saw missed row ≡ true
  so_splits writer saw missed row (after, before) =
      and_from (read_newer h saw row writer) (read_older h missed row writer) (so_after h saw row writer after) (so_before h missed row writer before)

  fork_so : (f : Fork) → is_fork h f ≡ true → IsFork h f
  fork_so f is =
      let found = two_so (split_rows h f.first f.saw_first f.saw_second) (split_rows h f.second f.saw_second f.saw_first) is in
      let one = passed (splits h f.first f.saw_first f.saw_second) (rows_by h f.first) found.0 found.3 in
      let other = passed (splits h f.second f.saw_second f.saw_first) (rows_by h f.second) found.1 found.4 in (
        found.0,
        found.1,
        found.2,
        splits_so f.first f.saw_first f.saw_second found.0 (member_wrote h f.first found.0 one.0) one.1,
        splits_so f.second f.saw_second f.saw_first found.1 (member_wrote h f.second found.1 other.0) other.1,
      )

  so_fork : (f : Fork) → IsFork h f → is_fork h f ≡ true
  so_fork f (x, y, apart, one, other) =
      so_two (split_rows h f.first f.saw_first f.saw_second) (split_rows h f.second f.saw_second f.saw_first) x y apart
      (kept (splits h f.first f.saw_first f.saw_second) (rows_by h f.first) x (wrote_member h f.first x (after_wrote h f.saw_first f.first x one.0)) (so_splits f.first f.saw_first f.saw_second x one))
      (kept (splits h f.second f.saw_second f.saw_first) (rows_by h f.second) y (wrote_member h f.second y (after_wrote h f.saw_second f.second y other.0)) (so_splits f.second f.saw_second f.saw_first y other))

  pub long_fork_so : (walk : List Edge) → is_long_fork h walk ≡ true → IsLongFork h walk
  long_fork_so [] is = absurd (false≢true is)
  long_fork_so (a ∷ []) is = absurd (false≢true is)
  long_fork_so (a ∷ b ∷ []) is = absurd (false≢true is)
  long_fork_so (a ∷ b ∷ c ∷ []) is = absurd (false≢true is)
  long_fork_so (a ∷ b ∷ c ∷ d ∷ []) is = (
    a,
    b,
    c,
    d,
    refl,
    elim (or_cases (is_fork h (fork_of a b c d)) (is_fork h (fork_of b c d a)) is) [ inl one ↦ inl (fork_so (fork_of a b c d) one) | inr other ↦ inr (fork_so (fork_of b c d a) other) ],
  )
  long_fork_so (a ∷ b ∷ c ∷ d ∷ e ∷ es) is = absurd (false≢true is)

  pub so_long_fork : (walk : List Edge) → IsLongFork h walk → is_long_fork h walk ≡ true
  so_long_fork walk (a, b, c, d, same, which) = ap (is_long_fork h) same ∙ elim which [
    | inl one ↦ or_left (is_fork h (fork_of a b c d)) (is_fork h (fork_of b c d a)) (so_fork (fork_of a b c d) one)
    | inr other ↦ or_right (is_fork h (fork_of a b c d)) (is_fork h (fork_of b c d a)) (so_fork (fork_of b c d a) other)
  ]

  -- phantoms
  only_predicate_anti : (k : Kind) → is_predicate_anti k ≡ true → k ≡ PredicateAnti
  only_predicate_anti Write is = absurd (false≢true is)
  only_predicate_anti ItemRead is = absurd (false≢true is)
  only_predicate_anti PredicateRead is = absurd (false≢true is)
  only_predicate_anti ItemAnti is = absurd (false≢true is)
  only_predicate_anti PredicateAnti is = refl

  tied_at : (from to : ℕ) (row : Row) → (Wrote h from row ⊎ Wrote h to row) → ties_otherwise h from to row ≡ true → is_tied_otherwise h from to ≡ true
  tied_at from to row (inl wrote) tie =
      or_left (ties_at_some h from to (rows_by h from)) (ties_at_some h from to (rows_by h to)) (some_passes (ties_otherwise h from to) (rows_by h from) row (wrote_member h from row wrote) tie)
  tied_at from to row (inr wrote) tie =
      or_right (ties_at_some h from to (rows_by h from)) (ties_at_some h from to (rows_by h to)) (some_passes (ties_otherwise h from to) (rows_by h to) row (wrote_member h to row wrote) tie)

  at_tied : (from to : ℕ) → is_tied_otherwise h from to ≡ true → (row : Row) × (Wrote h from row ⊎ Wrote h to row) × (ties_otherwise h from to row ≡ true)
  at_tied from to is = elim (or_cases (ties_at_some h from to (rows_by h from)) (ties_at_some h from to (rows_by h to)) is) [
    | inl first ↦ let found = row_any (ties_otherwise h from to) (rows_by h from) first in (found.0, inl (member_wrote h from found.0 found.1), found.2)
    | inr second ↦ let found = row_any (ties_otherwise h from to) (rows_by h to) second in (found.0, inr (member_wrote h to found.0 found.1), found.2)
  ]

  phantom_at_so : (e : Edge) → is_phantom_at h e ≡ true → IsPhantomAt h e
  phantom_at_so e is =
      let parts = and_parts (is_predicate_anti e.kind) (not (is_tied_otherwise h e.from e.to)) is in
      (only_predicate_anti e.kind parts.0, λ row wrote tie. true≢false (sym (tied_at e.from e.to row wrote tie) ∙ not-true (is_tied_otherwise h e.from e.to) parts.1))

  so_phantom_at : (e : Edge) → IsPhantomAt h e → is_phantom_at h e ≡ true
  so_phantom_at e (kind, none) =
      and_from (is_predicate_anti e.kind) (not (is_tied_otherwise h e.from e.to)) (ap is_predicate_anti kind) (not_from_false (is_tied_otherwise h e.from e.to) (untied (is_tied_otherwise h e.from e.to) refl))
    where
      untied : (b : Bool) → is_tied_otherwise h e.from e.to ≡ b → b ≡ false
      untied false is = refl
      untied true is = let found = at_tied e.from e.to is in absurd (none found.0 found.1 found.2)

  pub phantom_so : (walk : List Edge) → is_phantom h walk ≡ true → Any (IsPhantomAt h) walk
  phantom_so walk is = any_so (λ e. is_phantom_at h e ≡ true) (IsPhantomAt h) walk phantom_at_so (Any-from_list_any (is_phantom_at h) walk is)

  pub so_phantom : (walk : List Edge) → Any (IsPhantomAt h) walk → is_phantom h walk ≡ true
  so_phantom walk some = list_any-from_Any (is_phantom_at h) walk (any_so (IsPhantomAt h) (λ e. is_phantom_at h e ≡ true) walk so_phantom_at some)

-- a cycle of these four dependencies
pub of_four : (h : History) (walk : List Edge) (a b c d : Edge) → length walk ≡ 4 → a ≡ get_or walk 0 a → b ≡ get_or walk 1 b → c ≡ get_or walk 2 c → d ≡ get_or walk 3 d
    → (is_fork h (fork_of a b c d) || is_fork h (fork_of b c d a)) ≡ is_long_fork h walk
of_four h [] a b c d len one two three four = absurd (omega (arith, len))
of_four h (w ∷ []) a b c d len one two three four = absurd (omega (arith, len))
of_four h (w ∷ x ∷ []) a b c d len one two three four = absurd (omega (arith, len))
of_four h (w ∷ x ∷ y ∷ []) a b c d len one two three four = absurd (omega (arith, len))
of_four h (w ∷ x ∷ y ∷ z ∷ []) a b c d len one two three four = λ i. is_fork h (fork_of (one i) (two i) (three i) (four i)) || is_fork h (fork_of (two i) (three i) (four i) (one i))
of_four h (v ∷ w ∷ x ∷ y ∷ z ∷ es) a b c d len one two three four = absurd (omega (arith, len))
