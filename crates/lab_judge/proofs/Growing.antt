-- Graphs that grow by the arrows of dependencies.
use Rattle.std.{proofs.Common.{◌≡◌, ◌⊎◌, ℕ, ◌*◌, ◌<◌, ◌==◌, ◌&&◌, ◌||◌, Bool, true, false, length, slice_index, refl, sym, ap, ◌∙◌, inl, inr}, specs.Prelude.{◌↔◌, Contains, Decides, ⊤}}
use Rattle.std.proofs.lemmas.{Bool.{both_ways, and_parts, and_from, or_cases, or_left, or_right, eqb-true, eq-eqb, Decides.{Decides-and, Decides-below_or, Decides-eqb}}, Option.{slice_get-get_or, get_or_from_slice_get}}
use Rattle.lab_table.specs.Row.{Row}
use Rattle.lab_order.specs.Arrows.{Arrows, nodes_of, has_arrow, IsArrow}
use Rattle.lab_deps.specs.{KindBits.{edge_of}, KindSets.{among}, KindsBetween.{KindsBetween, AreKinds}, declared.{edge.{Edge.{Edge}, Kind.{Kind}}, kinds.Kinds.{Kinds}}}
use Rattle.lab_judge.specs.{Graphs.{Tie, IsGraphOf}, Joining.{start_node, commit_node, tail, head, Lands, Grows}, Places.{is_anti, is_flow}, PlaceGraphs.{spans, AreSpan, IsPlaceGraph}, declared.joining.Joining.{Joining, TheVariants.{Transactions, StartToCommit, CommitToStart}}}
use Rattle.lab_judge.proofs.Lists.{of_both}

-- some of the kinds between two transactions are wanted exactly where a dependency of such a kind ties them
pub meets_tie : (net : KindsBetween) (p q : ℕ) → p < length net.numbers → q < length net.numbers → (kinds : Kinds) → AreKinds net.edges (slice_index net.numbers p) (slice_index net.numbers q) kinds
    → (wanted : Kinds) (result : Bool) → result ≡ true ↔ ((kind : Kind) × (among kinds kind ≡ true) × (among wanted kind ≡ true)) → result ≡ true ↔ Tie (among wanted) net p q
meets_tie net p q low high kinds are wanted result meets =
    let from = slice_index net.numbers p in
    let to = slice_index net.numbers q in (
      λ on.
          let w : (kind : Kind) × (among kinds kind ≡ true) × (among wanted kind ≡ true) = meets.0 on in
          let found : (row : Row) × Contains net.edges (edge_of from to w.0 row) = (are w.0).0 w.1 in
          record { edge = edge_of from to w.0 found.0; is_one = found.1; kind = w.2; from = slice_get-get_or net.numbers p 0 low; to = slice_get-get_or net.numbers q 0 high },
      λ t.
          let e : Edge = t.edge in
          let begins : from ≡ e.from = get_or_from_slice_get net.numbers p e.from 0 t.from in
          let ends : to ≡ e.to = get_or_from_slice_get net.numbers q e.to 0 t.to in
          meets.1 (e.kind, (are e.kind).1 (e.row, of_both (λ n m. Contains net.edges (edge_of n m e.kind e.row)) (sym begins) (sym ends) t.is_one), t.kind),
    )

module _ {test : Kind → Bool} {joining : Joining} {net : KindsBetween} where
  -- where none of those that are looked at are tied, the graph stays
  pub unchanged : {Looked : ℕ → ℕ → Type 0} {g : Arrows} → ((p q : ℕ) → Looked p q → Tie test net p q → ⊥) → Grows test joining net Looked g g
  unchanged none = record { size = refl; kept = λ a b arrow. arrow; real = λ a b arrow. inl arrow; all = λ p q looked t. absurd (none p q looked t) }

  -- one arrow more
  pub added : {p q : ℕ} {old new : Arrows} → Tie test net p q → nodes_of new ≡ nodes_of old
      → ((a b : ℕ) → has_arrow new a b ≡ ((tail joining p == a && head joining q == b) || has_arrow old a b)) → Grows test joining net (λ x y. (x ≡ p) × (y ≡ q)) old new
  added {p} {q} {old} {new} tie size arrows = record {
    size = size;
    kept = λ a b arrow. arrows a b ∙ or_right (tail joining p == a && head joining q == b) (has_arrow old a b) arrow;
    real = λ a b arrow. elim (or_cases (tail joining p == a && head joining q == b) (has_arrow old a b) (sym (arrows a b) ∙ arrow)) [
      | inl own ↦
          let ends = and_parts (tail joining p == a) (head joining q == b) own in
          inr (record { from = p; to = q; tie = tie; tail_is = eqb-true (tail joining p) a ends.0; head_is = eqb-true (head joining q) b ends.1 })
      | inr was ↦ inl was
    ];
    all = λ x y same t.
        arrows (tail joining x) (head joining y)
        ∙ or_left (tail joining p == tail joining x && head joining q == head joining y) (has_arrow old (tail joining x) (head joining y))
        (and_from (tail joining p == tail joining x) (head joining q == head joining y) (eq-eqb _ _ (ap (tail joining) (sym same.0))) (eq-eqb _ _ (ap (head joining) (sym same.1))));
  }

  -- what grew and grew again grew by both
  pub grown : {One Other Both : ℕ → ℕ → Type 0} {old mid new : Arrows} → Grows test joining net One old mid → Grows test joining net Other mid new
      → ((p q : ℕ) → Both p q → One p q ⊎ Other p q) → Grows test joining net Both old new
  grown {old = old} g k split = record {
    size = k.size ∙ g.size;
    kept = λ a b arrow. k.kept a b (g.kept a b arrow);
    real = λ a b arrow. elim (k.real a b arrow) as (λ _. IsArrow old a b ⊎ Lands test joining net a b) [ inl was ↦ g.real a b was | inr lands ↦ inr lands ];
    all = λ p q both t. elim (split p q both) [ inl one ↦ k.kept (tail joining p) (head joining q) (g.all p q one t) | inr other ↦ k.all p q other t ];
  }

  -- where all that are tied were looked at
  pub wider : {One Other : ℕ → ℕ → Type 0} {old new : Arrows} → Grows test joining net One old new → ((p q : ℕ) → Other p q → Tie test net p q → One p q) → Grows test joining net Other old new
  wider g more = record { size = g.size; kept = g.kept; real = g.real; all = λ p q other t. g.all p q (more p q other t) t }

  -- each arrow that is due is there
  landed : {old new : Arrows} → Grows test joining net (λ p q. ⊤) old new → (a b : ℕ) → Lands test joining net a b → IsArrow new a b
  landed {new = new} g a b l = of_both (IsArrow new) l.tail_is l.head_is (g.all l.from l.to tt l.tie)

-- two nodes that are a start and its commit
spans_tell : (n a b : ℕ) → Decides (spans n a b) (AreSpan n a b)
spans_tell n a b =
    Decides-below_or (λ p. start_node p == a && commit_node p == b) (λ p. (start_node p ≡ a) × (commit_node p ≡ b)) (λ n. spans n a b)
    (λ p. Decides-and (start_node p == a) (commit_node p == b) (Decides-eqb (start_node p) a) (Decides-eqb (commit_node p) b)) refl (λ _. refl) n

module _ {net : KindsBetween} where
  -- where no arrow was there, the graph is that of the dependencies
  pub is_graph : {allowed : Kind → Bool} {bare new : Arrows} → nodes_of bare ≡ length net.numbers → ((a b : ℕ) → has_arrow bare a b ≡ false)
      → Grows allowed Transactions net (λ p q. ⊤) bare new → IsGraphOf allowed net new
  is_graph {allowed} {bare} {new} size none g = record {
    size = g.size ∙ size;
    arrows = λ a b. (
      λ arrow. elim (g.real a b arrow) as (λ _. Tie allowed net a b) [
        | inl was ↦ absurd (both_ways (has_arrow bare a b) (none a b) was)
        | inr l ↦ of_both (Tie allowed net) l.tail_is l.head_is l.tie
      ],
      λ t. g.all a b tt t,
    );
  }

  -- and where those from starts to their commits were there, it is that of starts and commits
  pub is_place_graph : {bare flow both : Arrows} → nodes_of bare ≡ 2 * length net.numbers → ((a b : ℕ) → has_arrow bare a b ≡ spans (length net.numbers) a b)
      → Grows is_flow CommitToStart net (λ p q. ⊤) bare flow → Grows is_anti StartToCommit net (λ p q. ⊤) flow both → IsPlaceGraph net both
  is_place_graph {bare} {flow} {both} size spanned g k = record {
    size = k.size ∙ g.size ∙ size;
    arrows = λ a b. (
      λ arrow. elim (k.real a b arrow) as (λ _. AreSpan (length net.numbers) a b ⊎ (Lands is_flow CommitToStart net a b ⊎ Lands is_anti StartToCommit net a b)) [
        | inl was ↦ elim (g.real a b was) as (λ _. AreSpan (length net.numbers) a b ⊎ (Lands is_flow CommitToStart net a b ⊎ Lands is_anti StartToCommit net a b)) [
          | inl span ↦ inl ((spans_tell (length net.numbers) a b).0 (sym (spanned a b) ∙ span))
          | inr lands ↦ inr (inl lands)
        ]
        | inr lands ↦ inr (inr lands)
      ],
      λ due. elim due [
        | inl span ↦ k.kept a b (g.kept a b (spanned a b ∙ (spans_tell (length net.numbers) a b).1 span))
        | inr lands ↦ elim lands [ inl f ↦ k.kept a b (landed g a b f) | inr n ↦ landed k a b n ]
      ],
    );
  }
