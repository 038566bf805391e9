-- What the least edge from one transaction to another has.
use Rattle.std.{proofs.{Common.{◌≡◌, ℕ, Bool, true, false, Option, Some, None, List, sym}, lemmas.{Bool.{false_from_ne_true}, Option.{none-some}}}, specs.{Prelude.{Contains, IfSome}, Ordering.{is_lt}}}
use Rattle.lab_deps.specs.{EdgeOrder.{edge_cmp}, LeastEdge.{IsLeastFitting}, declared.edge.{Edge.{Edge}, Kind.{Kind}}}

module _ (all : List Edge) (n m : ℕ) (kinds : Kind → Bool) where
  pub record IsTold (found : Option Edge) : Type 0 where
    pub there : IfSome found (Contains all)
    pub from : IfSome found (λ e. e.from ≡ n)
    pub to : IfSome found (λ e. e.to ≡ m)
    pub kind : IfSome found (λ e. kinds e.kind ≡ true)
    pub least : IfSome found (λ least. (e : Edge) → Contains all e → e.from ≡ n → e.to ≡ m → kinds e.kind ≡ true → is_lt (edge_cmp e least) ≡ false)
    pub none : found ≡ None → (e : Edge) → Contains all e → e.from ≡ n → e.to ≡ m → kinds e.kind ≡ true → ⊥

  pub told : (found : Option Edge) → IsLeastFitting all n m kinds found → IsTold found
  told None l = record { there = tt; from = tt; to = tt; kind = tt; least = tt; none = λ _ e there from to kind. l e (there, from, to, kind) }
  told (Some e) l = record {
    there = l.0.0;
    from = l.0.1;
    to = l.0.2;
    kind = l.0.3;
    least = λ other there from to kind. false_from_ne_true (is_lt (edge_cmp other e)) (l.1 other (there, from, to, kind));
    none = λ is. absurd (none-some e (sym is));
  }
