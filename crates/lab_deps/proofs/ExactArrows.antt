-- The kinds that cells tell of are those of some edges of a history.
use Rattle.std.{proofs.{Common.{◌≡◌, ◌≢◌, ◌↔◌, ◌+◌, ◌*◌, ◌==◌, ℕ, Bool, true, false, cond, List, [], length, get_or, replicate, refl, sym, ap, ◌∙◌, arith}, lemmas.{Bool.{eqb-false, ne_eqb, false≢true}, List.{length-replicate}}}, specs.Prelude.{Contains}}
use Rattle.lab_table.{specs.Row.{Row}, proofs.Members.{no_member}}
use Rattle.lab_history.specs.{History.{History}, Version.{IsCommitted}}
use Rattle.lab_deps.{specs.{Edges.{IsEdge}, KindBits.{has_bit, place, cell_at, bits_of, edge_of, Tells}, Numbering.{IsNumbering}, declared.edge.{Edge.{Edge}, Kind.{Kind}}}, proofs.{EachKind.{each_kind}, NumberedNodes.{zeros}}}

pub no_bit : (k : Kind) → has_bit 0 k ≡ false
no_bit = each_kind (λ k. has_bit 0 k ≡ false) refl refl refl refl refl

-- empty cells tell of no edges
pub told_none : (ns ps : List ℕ) (w : ℕ) (cs : List ℕ) → IsNumbering ns ps → w ≡ length ns + 1 → cs ≡ replicate (w * w) 0 → Tells ps w cs ps []
told_none ns ps w cs numbering wide empty = record {
  same = refl;
  square = ap length empty ∙ length-replicate (w * w) 0;
  below = λ n. omega (arith, wide, numbering.few n);
  apart = numbering.apart;
  exact = λ from to kind d a b. (
    λ has. absurd (false≢true (sym (no_bit kind) ∙ (ap (λ c. has_bit c kind) (sym (ap (λ xs. get_or xs (cell_at ps w from to) 0) empty ∙ zeros (w * w) (cell_at ps w from to))) ∙ has))),
    λ (row, found). absurd (no_member (edge_of from to kind row) found),
  );
}

-- what is so of two places whose cell has a bit
module _ (p q cell : ℕ) (kind : Kind) where
  other : (b : Bool) (rest : ℕ) → has_bit (cond b 0 rest) kind ≡ true → (b ≡ false) × (has_bit rest kind ≡ true)
  other true rest none = absurd (false≢true (sym (no_bit kind) ∙ none))
  other false rest has = (refl, has)

  pub held : has_bit (cond (p == q) 0 (cond (p == 0) 0 (cond (q == 0) 0 cell))) kind ≡ true → (p ≢ q) × (p ≢ 0) × (q ≢ 0) × (has_bit cell kind ≡ true)
  held is =
      let same = other (p == q) (cond (p == 0) 0 (cond (q == 0) 0 cell)) is in
      let first = other (p == 0) (cond (q == 0) 0 cell) same.1 in
      let second = other (q == 0) cell first.1 in
      (eqb-false p q same.0, eqb-false p 0 first.0, eqb-false q 0 second.0, second.1)

  hold : p ≢ q → p ≢ 0 → q ≢ 0 → has_bit cell kind ≡ true → has_bit (cond (p == q) 0 (cond (p == 0) 0 (cond (q == 0) 0 cell))) kind ≡ true
  hold differ some there has =
      ap (λ c. has_bit (cond c 0 (cond (p == 0) 0 (cond (q == 0) 0 cell))) kind) (ne_eqb p q differ)
      ∙ (ap (λ c. has_bit (cond c 0 (cond (q == 0) 0 cell)) kind) (ne_eqb p 0 some) ∙ (ap (λ c. has_bit (cond c 0 cell) kind) (ne_eqb q 0 there) ∙ has))

-- cells that tell of some edges of a history tell of them exactly
module _ (h : History) (es : List Edge) (are_edges : (e : Edge) → Contains es e → IsEdge h e) where
  pub exact_of : (ps : List ℕ) (w : ℕ) (cs made : List ℕ) → Tells ps w cs made es → ((n : ℕ) → IsCommitted h n → place made n ≢ 0)
      → (from to : ℕ) (kind : Kind) → (has_bit (bits_of ps w cs from to) kind ≡ true) ↔ ((row : Row) × Contains es (edge_of from to kind row))
  exact_of ps w cs made told placed from to kind = (forth, back)
    where
      forth : has_bit (bits_of ps w cs from to) kind ≡ true → (row : Row) × Contains es (edge_of from to kind row)
      forth is =
          let parts = held (place ps from) (place ps to) (get_or cs (cell_at ps w from to) 0) kind is in
          (told.exact from to kind (λ same. parts.0 (ap (place ps) same)) parts.1 parts.2).0 parts.3

      has_place : (n : ℕ) → IsCommitted h n → place ps n ≢ 0
      has_place n committed none = placed n committed (ap (λ xs. place xs n) (sym told.same) ∙ none)

      back : (row : Row) × Contains es (edge_of from to kind row) → has_bit (bits_of ps w cs from to) kind ≡ true
      back (row, there) =
          let edge = are_edges (edge_of from to kind row) there in
          let a = has_place from edge.0 in
          let b = has_place to edge.1 in
          hold (place ps from) (place ps to) (get_or cs (cell_at ps w from to) 0) kind (λ same. edge.2 (told.apart from to same a)) a b ((told.exact from to kind edge.2 a b).1 (row, there))
