use Rattle.std.{proofs.Common.{◌≡◌, T, true, List, sym, ap, subst, ◌∙◌}, specs.{BTreeSet.{insert_key}, FinMap.{entries, keys, is_sorted, entries_sorted}}}
use Rattle.lab_table.specs.{Row.{Row, row_cmp}, Placed.{is_row_at}}
use Rattle.lab_history.proofs.{RowsMet.{keys_present, keys_insert}, ids.Ids.add.Goals.{then-not-stands_at+in_ok-put, else-not-stands_at}}
use Rattle.lab_history.proofs.ids.Ids.add.Goals as goal

pub returns-then-stands_at : goal.returns-then-stands_at
returns-then-stands_at c =
    let seen = c.self.inside.seen in
    let row = c.args.row in
    let there : is_row_at (entries seen) c.likely_place-place.result row ≡ true = ap (λ es. is_row_at es c.likely_place-place.result row) (sym c.entries-2.ensures) ∙ sym c.stands_at.ensures ∙ c.if-stands_at.true in
    sym c.self.view_is ∙ sym (keys_present seen row c.likely_place-place.result there) ∙ ap (λ (l : List Row). insert_key row_cmp l row) c.self.view_is

pub place_of-place-requires : goal.place_of-place-requires
place_of-place-requires c = subst (λ es. T (is_sorted row_cmp es)) (sym c.entries-3.ensures) (entries_sorted c.self.inside.seen)

pub returns : goal.returns
returns c =
    let seen = c.self.inside.seen in
    let row = c.args.row in
    elim c.if-not-stands_at.branch [
      | then-not-stands_at+in_ok-put w ↦ w.self-is ∙ ap keys w.in_ok-put.ensures.ok ∙ keys_insert seen row tt ∙ ap (λ (l : List Row). insert_key row_cmp l row) c.self.view_is
      | else-not-stands_at w ↦
          let there : is_row_at (entries seen) c.place_of-place.result row ≡ true =
          ap (λ es. is_row_at es c.place_of-place.result row) (sym c.entries-4.ensures) ∙ sym c.stands_at-2.ensures ∙ w.if-not-stands_at.false in
          w.self-is ∙ sym c.self.view_is ∙ sym (keys_present seen row c.place_of-place.result there) ∙ ap (λ (l : List Row). insert_key row_cmp l row) c.self.view_is
    ]
