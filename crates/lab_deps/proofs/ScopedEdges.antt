-- The dependencies that are meant are edges.
use Rattle.std.specs.Prelude.{Contains}
use Rattle.lab_history.specs.History.{History}
use Rattle.lab_deps.{specs.{Edges.{IsEdge}, Scopes.{Allows, edges_in}, declared.{edge.Edge.{Edge}, scope.Scope.{Scope, TheVariants.{All, Writes}}}}, proofs.{CollectedEdges.{collected_is_edge}, WriteEdges.{are_writes}}}

-- those that are meant are edges
pub are_edges : (scope : Scope) (h : History) → Allows scope h → (e : Edge) → Contains (edges_in scope h) e → IsEdge h e
are_edges All h sound = collected_is_edge h sound
are_edges Writes h installed = λ e there. (are_writes h installed e there).0
