-- The least dependencies of pairs of transactions: what is asked for one after another, and that they are one list.
use Rattle.std.proofs.{Common.{◌≡◌, ℕ, ◌+◌, ◌<◌, Bool, true, false, Option, Some, None, Result, Ok, Err, List, [], ◌∷◌, ◌++◌, length, take, get_or, refl, sym, ap, ◌∙◌, subst}, lemmas.{Bool.{false≢true}, List.{take_more}}}
use Rattle.std.specs.{Prelude.{◌↔◌, Contains, IfOk, IfSome}, Ordering.{is_eq, is_lt, ordering_reverse}, declared.cmp.Ordering.{Ordering, TheVariants.{Less, Equal, Greater}}}
use Rattle.lab_history.specs.History.{History}
use Rattle.lab_deps.{specs.{Edges.{IsEdge}, EdgeOrder.{edge_cmp}, declared.edge.{Edge.{Edge}, Kind.{Kind}}}, proofs.EdgeOrders.{edges_total, same_edge}}
use Rattle.lab_picture.specs.{Forward.{IsLeastOf, AreLeastOf}, declared.forward.Pair.{Pair}}

-- the least of listed dependencies is the least of those that there are
pub least_of_listed : {F : Type 0} (h : History) (es : List Edge) (p : Pair) (kinds : Kind → Bool) (r : Result (Option Edge) F)
    → ((k : Kind) → kinds k ≡ true) → ((e : Edge) → Contains es e ↔ IsEdge h e)
    → IfOk r (λ found. IfSome found (Contains es)) → IfOk r (λ found. IfSome found (λ e. e.from ≡ p.from)) → IfOk r (λ found. IfSome found (λ e. e.to ≡ p.to))
    → IfOk r (λ found. IfSome found (λ least. (e : Edge) → Contains es e → e.from ≡ p.from → e.to ≡ p.to → kinds e.kind ≡ true → is_lt (edge_cmp e least) ≡ false))
    → IfOk r (λ found. found ≡ None → (e : Edge) → Contains es e → e.from ≡ p.from → e.to ≡ p.to → kinds e.kind ≡ true → ⊥)
    → IfOk r (IsLeastOf h p)
least_of_listed h es p kinds (Err f) all exact there from to least none = tt
least_of_listed h es p kinds (Ok None) all exact there from to least none = λ e edge f t. none refl e ((exact e).1 edge) f t (all e.kind)
least_of_listed h es p kinds (Ok (Some x)) all exact there from to least none =
    ((exact x).0 there, from, to, λ e edge f t. least e ((exact e).1 edge) f t (all e.kind))

-- edges of which neither is less are one
neither_less : (e f : Edge) → is_lt (edge_cmp e f) ≡ false → is_lt (edge_cmp f e) ≡ false → e ≡ f
neither_less e f p q = at (edge_cmp e f) refl p
  where
    at : (o : Ordering) → edge_cmp e f ≡ o → is_lt o ≡ false → e ≡ f
    at Less is less = absurd (false≢true (sym less))
    at Equal is less = same_edge e f (ap is_eq is)
    at Greater is less = absurd (false≢true (sym q ∙ ap is_lt (edges_total.antisymm f e ∙ ap ordering_reverse is)))

module _ (h : History) where
  -- one pair more
  added : (ps : List Pair) (os : List (Option Edge)) (p : Pair) (o : Option Edge) → AreLeastOf h ps os → IsLeastOf h p o → AreLeastOf h (ps ++ p ∷ []) (os ++ o ∷ [])
  added [] [] p o so least = (least, tt)
  added [] (x ∷ os) p o so least = absurd so
  added (q ∷ ps) [] p o so least = absurd so
  added (q ∷ ps) (x ∷ os) p o so least = (so.0, added ps os p o so.1 least)

  pub one_more : (ps : List Pair) (i : ℕ) (os new : List (Option Edge)) (p : Pair) (o : Option Edge) → i < length ps → p ≡ get_or ps i p → new ≡ os ++ o ∷ []
      → AreLeastOf h (take i ps) os → IsLeastOf h p o → AreLeastOf h (take (i + 1) ps) new
  one_more ps i os new p o lt is pushed so least =
      let more : take (i + 1) ps ≡ take i ps ++ p ∷ [] = take_more ps i p lt ∙ ap (λ q. take i ps ++ q ∷ []) (sym is) in
      subst (λ l. AreLeastOf h l new) (sym more) (subst (AreLeastOf h (take i ps ++ p ∷ [])) (sym pushed) (added (take i ps) os p o so least))

  -- of two answers to one question
  one_least : (p : Pair) (o q : Option Edge) → IsLeastOf h p o → IsLeastOf h p q → o ≡ q
  one_least p None None a b = refl
  one_least p None (Some e) a b = absurd (a e b.0 b.1 b.2)
  one_least p (Some e) None a b = absurd (b e a.0 a.1 a.2)
  one_least p (Some e) (Some f) a b = ap (λ x. Some x) (neither_less e f (b.3 e a.0 a.1 a.2) (a.3 f b.0 b.1 b.2))

  pub one_list : (ps : List Pair) (os qs : List (Option Edge)) → AreLeastOf h ps os → AreLeastOf h ps qs → os ≡ qs
  one_list [] [] [] a b = refl
  one_list [] [] (q ∷ qs) a b = absurd b
  one_list [] (o ∷ os) qs a b = absurd a
  one_list (p ∷ ps) [] qs a b = absurd a
  one_list (p ∷ ps) (o ∷ os) [] a b = absurd b
  one_list (p ∷ ps) (o ∷ os) (q ∷ qs) a b = ap (λ x. x ∷ os) (one_least p o q a.0 b.0) ∙ ap (λ xs. q ∷ xs) (one_list ps os qs a.1 b.1)
