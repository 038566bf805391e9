-- The edges between neighbours in the rows' lists are the write-dependencies.
use Rattle.std.{proofs.Common.{◌≡◌, ◌≢◌, ℕ, suc, refl, sym, subst}, specs.{Prelude.{Contains}, List.{flat_map}}}
use Rattle.std.specs.FinMap as map
use Rattle.lab_table.specs.Row.{Row}
use Rattle.lab_history.specs.{History.{History}, Version.{installers}}
use Rattle.lab_deps.specs.{Collected.{neighbours_at}, Edges.{InstallsAt, Depends, IsEdge}, Soundness.{Stands}, declared.{edge.{Edge.{Edge}, Kind.TheVariants.{Write}}, fault.LocalFault.TheVariants.{InstallOrder}}}
use Rattle.lab_deps.proofs.{Installers.{found_entry, row_named, installed_entry, installer_committed}, Membership.{from_each, of_each}, Neighbours.{write_edge, IsNeighbour, neighbours_are, are_neighbours}}

-- an edge between neighbours is listed
pub write_listed : (h : History) (row : Row) (p from to : ℕ) → InstallsAt h row p from → InstallsAt h row (suc p) to → from ≢ to
    → Contains (flat_map neighbours_at (map.entries h.installed)) (write_edge row from to)
write_listed h row p from to a b differ =
    of_each neighbours_at (map.entries h.installed) (row, installers h row) (write_edge row from to) (found_entry h.installed row (installers h row) (installed_entry h row p from a))
    (are_neighbours row (installers h row) p from to a b differ)

module _ (h : History) (installed : (row : Row) → Stands h (InstallOrder row) → ⊥) where
  -- an edge between neighbours is a write-dependency
  neighbour_is_edge : (row : Row) (e : Edge) → IsNeighbour row (installers h row) e → IsEdge h e × (e.kind ≡ Write)
  neighbour_is_edge row e r =
      subst (λ k. IsEdge h k × (k.kind ≡ Write)) r.is (
        (
          installer_committed h installed row r.place r.from r.from_is,
          installer_committed h installed row (suc r.place) r.to r.to_is,
          subst (λ (k : Edge). k.from ≢ k.to) (sym r.is) r.differ,
          (r.place, r.from_is, r.to_is),
        ),
        refl,
      )

  pub are_writes : (e : Edge) → Contains (flat_map neighbours_at (map.entries h.installed)) e → IsEdge h e × (e.kind ≡ Write)
  are_writes e found =
      let of_row = from_each neighbours_at (map.entries h.installed) e found in
      neighbour_is_edge of_row.source.0 e (neighbours_are of_row.source.0 (installers h of_row.source.0) e
      (subst (λ ns. Contains (neighbours_at (of_row.source.0, ns)) e) (sym (row_named h of_row.source of_row.is_source)) of_row.is_made))

  pub writes_are : (e : Edge) → IsEdge h e × (e.kind ≡ Write) → Contains (flat_map neighbours_at (map.entries h.installed)) e
  writes_are e ((a, b, differ, depends), is_write) = written (subst (λ k. Depends h k e.row e.from e.to) is_write depends)
    where
      written : Depends h Write e.row e.from e.to → Contains (flat_map neighbours_at (map.entries h.installed)) e
      written (p, from, to) =
          subst (λ k. Contains (flat_map neighbours_at (map.entries h.installed)) (record { from = e.from; to = e.to; kind = k; row = e.row })) (sym is_write)
          (write_listed h e.row p e.from e.to from to differ)
