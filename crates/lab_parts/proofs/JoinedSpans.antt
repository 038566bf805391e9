-- A snapshot run with places and one behind it are one with the places of the second behind those of the first.
use Rattle.std.proofs.Common.{◌≡◌, ◌≢◌, ℕ, zero, suc, ◌+◌, ◌-◌, ◌<◌, ◌≤◌, true, false, Option, Some, None, List, [], ◌∷◌, ◌++◌, map, refl, sym, ap, ◌∙◌, subst, arith, ◌⊎◌, inl, inr}
use Rattle.std.specs.{Prelude.{Contains, option_map}, Option.{option_or}}
use Rattle.std.proofs.lemmas.{Bool.{cases_lt}, List.{Concat.{flat_map-append}, Elements.{Contains-append_cases, Contains-append_left, Contains-append_right}}}
use Rattle.lab_table.specs.{Row.{Row}, Table.{Table}}
use Rattle.lab_history.{specs.{History.{History}, Version.{ops_of, writes_row}}, proofs.FirstValues.{or_none}}
use Rattle.lab_deps.proofs.Places.{times, times_count}
use Rattle.lab_judge.{specs.Runs.{HoldsEachOnce, RunAsRecorded, Span, committing, table_after, table_after_txn, table_at, all_places, AreConcurrent, IsSnapshotRun}, proofs.CountedNumbers.{times-append}}
use Rattle.lab_parts.specs.{Whole.{above_all, moved, joined}, WholeRuns.{Placed, above_commits, moved_span}}
use Rattle.lab_parts.proofs.JoinedTxns.{ops_first, ops_second, writes_first, writes_second}
use Rattle.lab_parts.proofs.MovedRuns.{table_moved, run_moved}
use Rattle.lab_parts.proofs.NumbersBehind.{times_behind, times_before}
use Rattle.lab_parts.proofs.MovedSpans.{contains_map, map_contains, commit_below, above_least, txn_there, nobody_commits, committing_there, committing_append, none_taken, nobody_moved, committing_moved, places_moved, txns_moved}
use Rattle.lab_parts.proofs.JoinedOrders.{stands_below, both_once}

module _ (a b : Placed) (p : IsSnapshotRun a.part a.spans) (q : IsSnapshotRun b.part b.spans) (fits : a.part.end_table ≡ b.part.initial) where
  abbrev run : History
  run = joined a.part b.part

  abbrev spans : List Span
  spans = a.spans ++ map (moved_span a) b.spans

  abbrev seam : ℕ
  seam = above_commits a.spans

  names_append : (xs ys : List Span) → map (λ s. s.txn) (xs ++ ys) ≡ map (λ s. s.txn) xs ++ map (λ s. s.txn) ys
  names_append [] ys = refl
  names_append (s ∷ xs) ys = ap (λ ns. s.txn ∷ ns) (names_append xs ys)

  names : map (λ s. s.txn) spans ≡ map (λ s. s.txn) a.spans ++ map (moved a.part) (map (λ s. s.txn) b.spans)
  names = names_append a.spans (map (moved_span a) b.spans) ∙ ap (λ ns. map (λ s. s.txn) a.spans ++ ns) (txns_moved a b.spans)

  below : (n : ℕ) → 1 ≤ times n (map (λ s. s.txn) a.spans) → n < above_all a.part.txns
  below = stands_below a.part (map (λ s. s.txn) a.spans) p.each_once

  -- ---- the table from place to place
  -- what a transaction of the first part leaves
  left_first : (o : Option ℕ) (t : Table) → ((n : ℕ) → o ≡ Some n → n < above_all a.part.txns) → table_after_txn run o t ≡ table_after_txn a.part o t
  left_first None t inside = refl
  left_first (Some n) t inside = ap (λ ops. table_after ops t) (ops_first a.part b.part n (inside n refl))

  -- and what one of the second
  left_second : (o : Option ℕ) (t : Table) → table_after_txn run (option_map (moved a.part) o) t ≡ table_after_txn b.part o t
  left_second None t = refl
  left_second (Some n) t = ap (λ ops. table_after ops t) (ops_second a.part b.part n) ∙ table_moved a.part (ops_of b.part n) t

  -- who commits before the seam, and who behind it
  commits_first : (place : ℕ) → place < seam → committing spans place ≡ committing a.spans place
  commits_first place less =
      committing_append a.spans (map (moved_span a) b.spans) place ∙ ap (option_or (committing a.spans place)) (nobody_moved a b.spans place less) ∙ or_none (committing a.spans place)

  commits_second : (place : ℕ) → committing spans (seam + place) ≡ option_map (moved a.part) (committing b.spans place)
  commits_second place =
      committing_append a.spans (map (moved_span a) b.spans) (seam + place)
      ∙ ap (λ o. option_or o (committing (map (moved_span a) b.spans) (seam + place))) (nobody_commits a.spans (seam + place) (omega arith))
      ∙ committing_moved a b.spans place

  -- up to the seam it is the first part's, and from there on the second's
  at_first : (place : ℕ) → place ≤ seam → table_at run spans place ≡ table_at a.part a.spans place
  at_first zero le = refl
  at_first (suc place) le =
      ap (λ o. table_after_txn run o (table_at run spans place)) (commits_first place (omega (arith, le)))
      ∙ ap (table_after_txn run (committing a.spans place)) (at_first place (omega (arith, le)))
      ∙ left_first (committing a.spans place) (table_at a.part a.spans place) (λ n is. below n (committing_there a.spans place n is))

  at_seam : table_at run spans seam ≡ b.part.initial
  at_seam = at_first seam (omega arith) ∙ p.ends seam (commit_below a.spans) ∙ fits

  next_place : (k n : ℕ) → k + suc n ≡ suc (k + n)
  next_place k n = omega arith

  no_further : (k : ℕ) → k + 0 ≡ k
  no_further k = omega arith

  at_second : (place : ℕ) → table_at run spans (seam + place) ≡ table_at b.part b.spans place
  at_second zero = ap (table_at run spans) (no_further seam) ∙ at_seam
  at_second (suc place) =
      ap (table_at run spans) (next_place seam place)
      ∙ ap (λ o. table_after_txn run o (table_at run spans (seam + place))) (commits_second place)
      ∙ left_second (committing b.spans place) (table_at run spans (seam + place))
      ∙ ap (table_after_txn b.part (committing b.spans place)) (at_second place)

  -- ---- the places of each
  -- each is one of the first part, or a moved one of the second
  abbrev IsOfFirst : Span → Type 0
  IsOfFirst s = Contains a.spans s

  abbrev IsOfSecond : Span → Type 0
  IsOfSecond s = (t : Span) × Contains b.spans t × (moved_span a t ≡ s)

  of_either : (s : Span) → Contains spans s → IsOfFirst s ⊎ IsOfSecond s
  of_either s there = elim (Contains-append_cases a.spans (map (moved_span a) b.spans) s there) [
    | inl first ↦ inl first
    | inr second ↦ inr (contains_map (moved_span a) b.spans s second)
  ]

  goes_forward : (s : Span) → IsOfFirst s ⊎ IsOfSecond s → s.start < s.commit
  goes_forward s (inl first) = p.forward s first
  goes_forward s (inr (t, there, is)) =
      let less : t.start < t.commit = q.forward t there in
      let start : seam + t.start ≡ s.start = ap (λ s. s.start) is in
      let commit : seam + t.commit ≡ s.commit = ap (λ s. s.commit) is in
      omega (arith, less, start, commit)

  runs_so : (s : Span) → IsOfFirst s ⊎ IsOfSecond s → RunAsRecorded (ops_of run s.txn) (table_at run spans s.start)
  runs_so s (inl first) =
      let less : s.start < s.commit = p.forward s first in
      let within : s.commit < seam = commit_below a.spans s first in
      subst (RunAsRecorded (ops_of run s.txn)) (sym (at_first s.start (omega (arith, less, within))))
      (subst (λ ops. RunAsRecorded ops (table_at a.part a.spans s.start)) (sym (ops_first a.part b.part s.txn (below s.txn (txn_there a.spans s first)))) (p.runs s first))
  runs_so s (inr (t, there, is)) =
      subst (λ s. RunAsRecorded (ops_of run s.txn) (table_at run spans s.start)) is
      (subst (RunAsRecorded (ops_of run (moved a.part t.txn))) (sym (at_second t.start))
      (subst (λ ops. RunAsRecorded ops (table_at b.part b.spans t.start)) (sym (ops_second a.part b.part t.txn)) (run_moved a.part (ops_of b.part t.txn) (table_at b.part b.spans t.start) (q.runs t there))))

  -- places are as often taken as in one of the parts
  taken : (place : ℕ) → times place (all_places spans) ≡ times place (all_places a.spans) + times place (map (λ n. seam + n) (all_places b.spans))
  taken place =
      ap (times place) (flat_map-append (λ s. s.start ∷ s.commit ∷ []) a.spans (map (moved_span a) b.spans) ∙ ap (λ ps. all_places a.spans ++ ps) (places_moved a b.spans))
      ∙ times-append place (all_places a.spans) (map (λ n. seam + n) (all_places b.spans))

  taken_once : (place : ℕ) → times place (all_places spans) ≤ 1
  taken_once place = elim (cases_lt place seam) [
    | inl less ↦ omega (arith, taken place, times_before seam place (all_places b.spans) less, times_count place (all_places a.spans), p.distinct place)
    | inr le ↦ behind (place - seam) (omega (arith, le))
  ]
    where
      behind : (m : ℕ) → place ≡ seam + m → times place (all_places spans) ≤ 1
      behind m is =
          let none : times place (all_places a.spans) ≡ 0 = none_taken a.spans p.forward place (omega (arith, is)) in
          let same : times place (map (λ n. seam + n) (all_places b.spans)) ≡ times m (all_places b.spans) =
          ap (λ x. times x (map (λ n. seam + n) (all_places b.spans))) is ∙ times_behind seam m (all_places b.spans) in
          omega (arith, taken place, none, same, times_count m (all_places b.spans), q.distinct m)

  -- ---- who runs at one time
  -- one of each part are not concurrent
  not_concurrent : (s t : Span) → IsOfFirst s → IsOfSecond t → s.commit < t.start
  not_concurrent s t first (u, there, is) =
      let within : s.commit < seam = commit_below a.spans s first in
      let start : seam + u.start ≡ t.start = ap (λ s. s.start) is in
      omega (arith, within, start)

  -- two of the second part are concurrent where they were
  concurrent_there : (s t u v : Span) → moved_span a u ≡ s → moved_span a v ≡ t → AreConcurrent s t → AreConcurrent u v
  concurrent_there s t u v is also c =
      let start : seam + u.start ≡ s.start = ap (λ s. s.start) is in
      let commit : seam + u.commit ≡ s.commit = ap (λ s. s.commit) is in
      let other_start : seam + v.start ≡ t.start = ap (λ s. s.start) also in
      let other_commit : seam + v.commit ≡ t.commit = ap (λ s. s.commit) also in
      ((λ less. c.0 (omega (arith, less, commit, other_start))), (λ less. c.1 (omega (arith, less, other_commit, start))))

  writes_there : (s u : Span) (row : Row) → moved_span a u ≡ s → writes_row run s.txn row ≡ writes_row b.part u.txn row
  writes_there s u row is = ap (λ s. writes_row run s.txn row) (sym is) ∙ writes_second a.part b.part u.txn row

  writes_here : (s : Span) (row : Row) → IsOfFirst s → writes_row run s.txn row ≡ writes_row a.part s.txn row
  writes_here s row first = writes_first a.part b.part s.txn row (below s.txn (txn_there a.spans s first))

  write_apart : (s t : Span) → IsOfFirst s ⊎ IsOfSecond s → IsOfFirst t ⊎ IsOfSecond t → s.txn ≢ t.txn → AreConcurrent s t → (row : Row) → writes_row run s.txn row ≡ true
      → writes_row run t.txn row ≡ false
  write_apart s t (inl first) (inl also) differ c row w = writes_here t row also ∙ p.apart s t first also differ c row (sym (writes_here s row first) ∙ w)
  write_apart s t (inl first) (inr second) differ c row w = absurd (c.0 (not_concurrent s t first second))
  write_apart s t (inr second) (inl first) differ c row w = absurd (c.1 (not_concurrent t s first second))
  write_apart s t (inr (u, there, is)) (inr (v, also, so)) differ c row w =
      writes_there t v row so
      ∙ q.apart u v there also (λ e. differ (ap (λ s. s.txn) (sym is) ∙ ap (moved a.part) e ∙ ap (λ s. s.txn) so)) (concurrent_there s t u v is so c) row
      (sym (writes_there s u row is) ∙ w)

  -- ---- the end
  ends_behind : (place : ℕ) → ((s : Span) → Contains spans s → s.commit < place) → (m : ℕ) → place ≡ seam + m → table_at run spans place ≡ run.end_table
  ends_behind place all m is =
      ap (table_at run spans) is ∙ at_second m ∙ q.ends m (λ t there.
      let less : seam + t.commit < place = all (moved_span a t) (behind t there) in
      omega (arith, less, is))
    where
      behind : (t : Span) → Contains b.spans t → Contains spans (moved_span a t)
      behind t there = Contains-append_right a.spans (map (moved_span a) b.spans) (moved_span a t) (map_contains (moved_span a) b.spans t there)

  ends_so : (place : ℕ) → ((s : Span) → Contains spans s → s.commit < place) → table_at run spans place ≡ run.end_table
  ends_so place all =
      let le : seam ≤ place = above_least a.spans place (λ s there. all s (Contains-append_left a.spans (map (moved_span a) b.spans) s there)) in
      ends_behind place all (place - seam) (omega (arith, le))

  -- of two parts
  pub both_placed : IsSnapshotRun run spans
  both_placed = record {
    each_once = subst (HoldsEachOnce run) (sym names) (both_once a.part b.part (map (λ s. s.txn) a.spans) (map (λ s. s.txn) b.spans) p.each_once q.each_once);
    forward = λ s there. goes_forward s (of_either s there);
    distinct = λ place. let once : times place (all_places spans) ≤ 1 = taken_once place in omega (arith, once, times_count place (all_places spans));
    runs = λ s there. runs_so s (of_either s there);
    ends = ends_so;
    apart = λ s t there also differ c row w. write_apart s t (of_either s there) (of_either t also) differ c row w;
  }
