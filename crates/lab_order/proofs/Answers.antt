-- A graph has one answer.
use Rattle.std.proofs.Common.{List, [], ◌∷◌, ℕ}
use Rattle.lab_order.{specs.{Arrows.{Arrows, IsArrow}, Back.{IsBackCircle}, Least.{IsLess}, Order.{IsOrder, IsAnswered, AreSame}, declared.ordering.Ordered.{Ordered, TheVariants.{Order, Circle}}}, proofs.{BackCircles.{one_of_graph, first_met}, Least.{one_least}, Stuck.{order_excludes}}}

-- where there is an order, there is no such cycle
no_circle : (graph : Arrows) (order circle : List ℕ) → IsOrder graph order → IsBackCircle graph circle → ⊥
no_circle graph order [] h k = k.back
no_circle graph order (n ∷ ns) h k = let met = first_met IsLess (IsArrow graph) n ns k in order_excludes graph order met.start h met.least.stuck

-- so two answers are the same
pub one_answer : (graph : Arrows) (a b : Ordered) → IsAnswered graph a → IsAnswered graph b → AreSame a b
one_answer graph (Order ns) (Order ms) h k = one_least (IsOrder graph) ns.items ms.items h k
one_answer graph (Order ns) (Circle ms) h k = no_circle graph ns.items ms.items h.is_one k
one_answer graph (Circle ns) (Order ms) h k = no_circle graph ms.items ns.items k.is_one h
one_answer graph (Circle ns) (Circle ms) h k = one_of_graph graph ns.items ms.items h k
