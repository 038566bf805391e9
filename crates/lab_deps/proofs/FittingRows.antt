-- The versions of a history's rows have the places of their installers.
use Rattle.std.{proofs.{Common.{◌≡◌, ℕ, List, get_or}, lemmas.List.Elements.{All-contains, All-map}}, specs.Prelude.{Contains}}
use Rattle.std.specs.FinMap as finite
use Rattle.lab_table.specs.Row.{Row}
use Rattle.lab_history.specs.History.{History}
use Rattle.lab_deps.specs.{EdgesByRow.{Chain, left_by, versions_of, with_versions, rows_of}, KindBits.{place}, Numbering.{place_in_order, HasPlaces, FitsVersions}, declared.versions.Version.{Version}}

module _ (h : History) (ps : List ℕ) (has : HasPlaces h ps) where
  abbrev Fits : Version → Type 0
  Fits v = place ps v.installer ≡ v.place

  fits_these : (row : Row) (ns : List ℕ) → FitsVersions (versions_of h row ns) ps
  fits_these row ns v there =
      All-contains Fits (versions_of h row ns) v (All-map Fits (λ n. record { installer = n; place = place_in_order h n; value = left_by h row n }) ns (λ k d lt. has (get_or ns k d))) there

  abbrev FitsRow : Row × Chain → Type 0
  FitsRow e = FitsVersions e.1.items ps

  pub fits_rows : (row : Row) (chain : Chain) → Contains (rows_of h) (row, chain) → FitsVersions chain.items ps
  fits_rows row chain there =
      let es = finite.entries h.installed in
      All-contains FitsRow (rows_of h) (row, chain) (All-map FitsRow (with_versions h) es (λ k d lt. let e = get_or es k d in fits_these e.0 e.1)) there
