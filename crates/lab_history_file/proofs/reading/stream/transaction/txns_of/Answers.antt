use Rattle.std.proofs.Common.{◌≡◌, ◌+◌, [], ◌∷◌, ◌++◌, length, sym, ap, subst, ◌∙◌, arith, length-append}
use Rattle.json.specs.Token.{Token}
use Rattle.lab_history_file.specs.{Behind.{AllStand, Stands}, FileOf.{IsListOf, IsTransaction}, Spelled.{PassesEach, Spelled}}
use Rattle.lab_history_file.proofs.{ItemsRead.{stand_more}, TokensSpell.{each_none, each_more, each_listed, each_smaller}}
use Rattle.lab_history_file.proofs.reading.stream.transaction.txns_of.Goals as goal

pub txns-init : goal.txns-init
txns-init c =
    let inside = c.open_list.new.self in
    let Is = IsTransaction c.args.version in (
      inside,
      c.in_ok-open_list.ensures,
      subst (PassesEach 6 Is inside inside) (sym c.in_ok-txns.ensures) (each_none 6 Is inside),
      subst (AllStand Stands []) (sym c.in_ok-txns.ensures) tt,
      ap length (sym c.in_ok-txns.ensures),
      omega arith,
    )

pub txns-preserved : goal.txns-preserved
txns-preserved c =
    let l = c.txns in
    let new = c.txn_of.new.cursor in
    let txn = c.in_ok-txn.txn in
    let Is = IsTransaction c.args.version in
    let same : c.list_ends.new.self ≡ l.cursor = grind arith in
    let read = subst (λ ts. Spelled 6 Is ts new txn) same c.in_ok-txn.ensures.spelled in
    let count : l.count + 1 ≡ length (l.txns ++ txn ∷ []) = omega (arith, l.invariant.4, length-append l.txns (txn ∷ [])) in (
      l.invariant.0,
      l.invariant.1,
      subst (PassesEach 6 Is l.invariant.0 new) (sym c.in_ok-push.ensures) (each_more 6 Is l.invariant.0 l.cursor new l.txns txn l.invariant.2 read),
      subst (AllStand Stands []) (sym c.in_ok-push.ensures) (stand_more Stands [] l.txns txn l.invariant.3 c.in_ok-txn.ensures.stands),
      count ∙ ap length (sym c.in_ok-push.ensures),
      grind arith,
    )

pub txns-smaller : goal.txns-smaller
txns-smaller c =
    let l = c.txns in
    let new = c.txn_of.new.cursor in
    let txn = c.in_ok-txn.txn in
    let Is = IsTransaction c.args.version in
    let same : c.list_ends.new.self ≡ l.cursor = grind arith in
    each_smaller 6 Is l.cursor new txn (subst (λ ts. Spelled 6 Is ts new txn) same c.in_ok-txn.ensures.spelled)

pub returns-clause-spelled : goal.returns-clause-spelled
returns-clause-spelled c =
    let l = c.txns in
    let ends : l.cursor ≡ Token.end_array ∷ c.list_ends.new.self = grind arith in
    subst (Spelled 7 (IsListOf (IsTransaction c.args.version)) c.args.cursor.now c.list_ends.new.self) (sym c.into_txns.ensures)
    (each_listed 6 (IsTransaction c.args.version) c.args.cursor.now l.invariant.0 l.cursor c.list_ends.new.self l.txns l.invariant.1 l.invariant.2 ends)

pub returns-clause-stand : goal.returns-clause-stand
returns-clause-stand c = subst (AllStand Stands []) (sym c.into_txns.ensures) c.txns.invariant.3

pub returns-clause-few : goal.returns-clause-few
returns-clause-few c = let l = c.txns in omega (arith, l.invariant.4, l.invariant.5, ap length c.into_txns.ensures)
