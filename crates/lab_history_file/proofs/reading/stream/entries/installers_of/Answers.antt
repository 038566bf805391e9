use Rattle.std.proofs.Common.{◌≡◌, ℕ, ◌∷◌, Some, sym, subst, arith}
use Rattle.json.specs.Token.{Token}
use Rattle.serde_json.specs.Data.{Data}
use Rattle.lab_history_file.specs.{Entries.{txn_in_number}, FileOf.{IsListOf}, Spelled.{PassesEach, Spelled}}
use Rattle.lab_history_file.proofs.TokensSpell.{each_none, each_more, each_listed, each_smaller}
use Rattle.lab_history_file.proofs.reading.stream.entries.installers_of.Goals as goal

abbrev IsNumber : Data → ℕ → Type 0
IsNumber d txn = txn_in_number d ≡ Some txn

pub numbers-init : goal.numbers-init
numbers-init c =
    let inside = c.open_list.new.self in
    (inside, c.in_ok-open_list.ensures, subst (PassesEach 0 IsNumber inside inside) (sym c.new-found.ensures.items) (each_none 0 IsNumber inside))

pub numbers-preserved : goal.numbers-preserved
numbers-preserved c =
    let l = c.numbers in
    let new = c.txn_no_of.new.cursor in
    let same : c.list_ends.new.self ≡ l.cursor = grind arith in
    let read = subst (λ ts. Spelled 0 IsNumber ts new c.in_ok-number.number) same c.in_ok-number.ensures in (
      l.invariant.0,
      l.invariant.1,
      subst (PassesEach 0 IsNumber l.invariant.0 new) (sym c.in_ok-push.ensures.items) (each_more 0 IsNumber l.invariant.0 l.cursor new l.found.items c.in_ok-number.number l.invariant.2 read),
    )

pub numbers-smaller : goal.numbers-smaller
numbers-smaller c =
    let l = c.numbers in
    let new = c.txn_no_of.new.cursor in
    let same : c.list_ends.new.self ≡ l.cursor = grind arith in
    each_smaller 0 IsNumber l.cursor new c.in_ok-number.number (subst (λ ts. Spelled 0 IsNumber ts new c.in_ok-number.number) same c.in_ok-number.ensures)

pub returns-clause-stand : goal.returns-clause-stand
returns-clause-stand c =
    let l = c.numbers in
    let ends : l.cursor ≡ Token.end_array ∷ c.list_ends.new.self = grind arith in
    subst (Spelled 1 (IsListOf IsNumber) c.args.cursor.now c.list_ends.new.self) (sym c.new.ensures)
    (each_listed 0 IsNumber c.args.cursor.now l.invariant.0 l.cursor c.list_ends.new.self l.found.items l.invariant.1 l.invariant.2 ends)
