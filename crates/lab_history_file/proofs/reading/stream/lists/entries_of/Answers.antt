use Rattle.std.{proofs.Common.{◌≡◌, [], ◌∷◌, T, true, sym, ap, subst, ◌∙◌, arith}}
use Rattle.json.specs.Token.{Token}
use Rattle.lab_history.{specs.RowOrder.{follows}, proofs.Rising.{rises_all}}
use Rattle.lab_history_file.specs.{Behind.{AllStand}, Entries.{last_row}, Spelled.{PassesEach, Spelled}}
use Rattle.lab_history_file.proofs.{ItemsRead.{stand_more}, ListsRead.{Follows, follow_rise, last_pushed}, TokensSpell.{each_none, each_more, each_listed, each_smaller}}
use Rattle.lab_history_file.proofs.reading.stream.lists.entries_of.Goals as goal

pub entries-init : goal.entries-init
entries-init g c =
    let inside = c.open_list.new.self in
    let Is = g.M.Member.stands c.args.version in (
      inside,
      c.in_ok-open_list.ensures,
      subst (PassesEach 2 Is inside inside) (sym c.new-entries.ensures.items) (each_none 2 Is inside),
      ap last_row (sym c.new-entries.ensures.items),
      subst (AllStand Follows []) (sym c.new-entries.ensures.items) tt,
    )

pub entries-preserved : goal.entries-preserved
entries-preserved g c =
    let l = c.entries in
    let new = c.read.new.cursor in
    let entry = c.in_ok-entry.entry in
    let Is = g.M.Member.stands c.args.version in
    let same : c.list_ends.new.self ≡ l.cursor = grind arith in
    let follow : follows (last_row l.entries.items) entry.0 ≡ true = grind arith in
    let read = subst (λ ts. Spelled 2 Is ts new entry) same c.in_ok-entry.ensures in (
      l.invariant.0,
      l.invariant.1,
      subst (PassesEach 2 Is l.invariant.0 new) (sym c.in_ok-push.ensures.items) (each_more 2 Is l.invariant.0 l.cursor new l.entries.items entry l.invariant.2 read),
      sym (last_pushed l.entries.items entry) ∙ ap last_row (sym c.in_ok-push.ensures.items),
      subst (AllStand Follows []) (sym c.in_ok-push.ensures.items) (stand_more Follows [] l.entries.items entry l.invariant.4 (subst T (sym follow) tt)),
    )

pub entries-smaller : goal.entries-smaller
entries-smaller g c =
    let l = c.entries in
    let new = c.read.new.cursor in
    let entry = c.in_ok-entry.entry in
    let Is = g.M.Member.stands c.args.version in
    let same : c.list_ends.new.self ≡ l.cursor = grind arith in
    each_smaller 2 Is l.cursor new entry (subst (λ ts. Spelled 2 Is ts new entry) same c.in_ok-entry.ensures)

pub returns-clause-stand : goal.returns-clause-stand
returns-clause-stand g c =
    let l = c.entries in
    let ends : l.cursor ≡ Token.end_array ∷ c.list_ends.new.self = grind arith in
    each_listed 2 (g.M.Member.stands c.args.version) c.args.cursor.now l.invariant.0 l.cursor c.list_ends.new.self l.entries.items l.invariant.1 l.invariant.2 ends

pub returns-clause-rise : goal.returns-clause-rise
returns-clause-rise g c = let l = c.entries in subst T (rises_all l.entries.items) (follow_rise [] l.entries.items l.invariant.4)
